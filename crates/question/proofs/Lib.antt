pub mod NegatingLaws
pub mod TurningLaws
pub mod OneSidedLaws
