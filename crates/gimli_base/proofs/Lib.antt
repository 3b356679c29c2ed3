pub mod OneByte
pub mod ChainSteps
pub mod ItemTurns
pub mod Both
pub mod LebTurns
pub mod UlebTurns
pub mod SlebTurns
pub mod Ranges
mod RefWidths
pub mod PassTurns
pub mod PartBytes
mod WordBytes
pub mod AbbreviationReads
pub mod AbbreviationTable
pub mod AbbreviationMap
pub mod StepTurns
pub mod TableTurns
pub mod Later
pub mod Taken
pub mod Passed
pub mod Memory
