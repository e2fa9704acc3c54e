pub mod Tally
pub mod Probe
