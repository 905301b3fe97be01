pub mod Steps
pub mod ListSteps
