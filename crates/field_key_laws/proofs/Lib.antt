mod CodeLaws
mod TextLaws
mod SortedLaws
mod FieldLaws
