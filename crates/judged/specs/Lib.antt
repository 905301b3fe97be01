pub mod Judge
pub mod Formulas
pub mod Trees
pub mod Sessions
