pub mod Tally
pub mod Stack
pub mod Call
pub mod Rate
pub mod Report
