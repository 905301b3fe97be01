pub mod Zones
pub mod ZonesLaws
