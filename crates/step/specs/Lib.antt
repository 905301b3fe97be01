pub mod Taking
pub mod SequentLaws
pub mod StepsLaws
pub mod TakingLaws
