pub mod Children
pub mod Enters
pub mod Modes
pub mod Second
pub mod Subtree
