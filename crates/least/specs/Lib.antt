pub mod Finding
pub mod FindingLaws
