pub mod Amount
pub mod Rate
