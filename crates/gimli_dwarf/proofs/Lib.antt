pub mod Roots
pub mod UnitSearch
pub mod Sets
