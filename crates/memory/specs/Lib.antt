pub mod Meaning
pub mod MeaningLaws
pub mod PartsLaws
pub mod Rules
pub mod Shapes
pub mod SettledLaws
