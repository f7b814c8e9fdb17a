mod FoundLaws
mod StepLaws
mod CutLaws
mod Locality
