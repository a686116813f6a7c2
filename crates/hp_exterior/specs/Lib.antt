pub mod Exterior
pub mod ExteriorRing
pub mod ExteriorSetting
pub mod SetSums
