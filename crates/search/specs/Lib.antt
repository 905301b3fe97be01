pub mod Walk
pub mod Told
pub mod ToldLaws
pub mod Plans
pub mod Contract
pub mod Asked
pub mod AskedLaws
