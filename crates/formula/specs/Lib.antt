pub mod Answers
pub mod Reading
pub mod ReadingLaws
pub mod Signs
pub mod SignsLaws
pub mod Rewriting
pub mod Calls
