pub mod JsonLaws
