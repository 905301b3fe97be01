pub mod Asking
pub mod AskingLaws
pub mod Reading
pub mod ReadingLaws
pub mod SettledLaws
