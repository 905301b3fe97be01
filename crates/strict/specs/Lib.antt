pub mod Zones
pub mod ZonesLaws
pub mod Steps
pub mod StepsLaws
pub mod Rules
pub mod RulesLaws
