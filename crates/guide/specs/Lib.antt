pub mod Battery
pub mod Standby
pub mod Measured
pub mod Laws
