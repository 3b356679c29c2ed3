pub mod WidthLaw
pub mod TreeLaw
pub mod StartLaw
pub mod RowLaw
pub mod PlaceLaw
pub mod PassReads
pub mod PassLaw
pub mod HonestShift
pub mod CursorLaw
pub mod AttributeTurns
pub mod Bounds
pub mod Chains
pub mod CursorSteps
pub mod Onward
pub mod Flagless
pub mod Seeking
pub mod Walking
pub mod Splits
pub mod Jumps
pub mod Memory
pub mod TreeSteps
mod PassPlaces
mod SkipTurns
mod SizedReads
pub mod ReadTurns
mod SumReads
mod SiblingReads
mod StepReads
pub mod WalkerSteps
pub mod RowSteps
pub mod RowChain
pub mod EntryReads
pub mod LeastFalse
pub mod HeadReads
pub mod PassedOn
mod SeekTurns
