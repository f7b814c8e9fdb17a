mod FieldLaws
mod PutLaws
