pub mod Recount
pub mod Noting
