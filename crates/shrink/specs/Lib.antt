pub mod Shrinking
pub mod Standing
pub mod ShrinkingLaws
