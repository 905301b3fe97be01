pub mod RowSteps
pub mod EntrySteps
pub mod LoopSteps
pub mod TurnSteps
