pub mod ReadCases
pub mod GivesLaws
pub mod FormulaBytes
pub mod ZoneBytes
pub mod MessageBytes
pub mod QuestionBytes
pub mod TreeBytes
pub mod FoundFits
