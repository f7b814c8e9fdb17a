mod Documents
mod FrontLaws
mod KeyOrder
mod Refusals
