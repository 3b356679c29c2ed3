pub mod Sections
pub mod Header
pub mod Units
pub mod OpenRows
