pub mod RewritingLaws
pub mod CallsLaws
