pub mod ModeLaw
pub mod Seconds
pub mod Counts
pub mod Inside
pub mod NodeCounts
pub mod InnerCounts
pub mod Below
