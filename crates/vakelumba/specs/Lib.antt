pub mod Says
pub mod SaysLaws
pub mod Judged
pub mod JudgedLaws
pub mod Proved
pub mod ProvedLaws
pub mod Shorts
pub mod ShortsLaws
