mod FaultLaws
mod IndexLaws
mod MarkLaws
mod NameLaws
mod UseLaws
