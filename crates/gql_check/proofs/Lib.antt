mod ErrorLaws
mod GroundLaws
