pub mod Addresses
pub mod AnswerLines
pub mod AnswerTruth
pub mod CursorRuns
pub mod CursorTruth
pub mod Declared
mod DigitsOnto
pub mod Dumps
pub mod Roots
pub mod RowLines
mod RowText
mod RunSteps
pub mod StoppedLines
pub mod Telling
pub mod TreeLines
pub mod TreeRuns
pub mod TreeAnswered
pub mod TreeTruth
pub mod TreeTurned
pub mod WordLines
pub mod WrittenLines
