pub mod Promise
pub mod Claims
pub mod PromiseLaws
pub mod Steps
pub mod StepsLaws
pub mod EntryLaws
pub mod Main
