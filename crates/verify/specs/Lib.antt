pub mod Verdicts
pub mod Shapes
pub mod Walks
pub mod ShapesLaws
pub mod WalksLaws
pub mod Promises
