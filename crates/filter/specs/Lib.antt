pub mod Cutting
pub mod Status
pub mod Taking
