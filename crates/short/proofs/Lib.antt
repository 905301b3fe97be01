pub mod StepsLaws
pub mod ExpandLaws
pub mod LeastLaws
pub mod ShortenLaws
pub mod WalkedLaws
