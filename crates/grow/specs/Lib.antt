pub mod Growing
pub mod Stages
pub mod StagesLaws
pub mod GrowingLaws
