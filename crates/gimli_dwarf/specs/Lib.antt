pub mod Texts
pub mod Bases
pub mod Values
pub mod Lists
pub mod Holding
pub mod Addresses
