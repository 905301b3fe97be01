pub mod WholeSteps
pub mod ShapeSteps
pub mod FailedSteps
pub mod RulesLaws
