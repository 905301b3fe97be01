pub mod Deal
pub mod Cells
pub mod DealLaws
pub mod Meant
pub mod MeantLaws
pub mod Place
