pub mod FlagSorts
pub mod LabelOrder
pub mod RowAlgebra
pub mod RowMaps
