pub mod Write
pub mod Read
pub mod Fits
pub mod Runs
