pub mod Reading
pub mod EndsLaws
pub mod RuleLaws
pub mod Places
pub mod ReadingLaws
