pub mod UnitSteps
pub mod UnitReads
pub mod OpenTurns
pub mod Innermost
pub mod References
pub mod RowTurns
pub mod Roots
pub mod Checks
