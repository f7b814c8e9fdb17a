pub mod ListLaws
pub mod CellLaws
pub mod PlaceLaws
pub mod LayerLaws
pub mod StoreLaws
pub mod RowLaws
pub mod OpenLaws
