pub mod Layered
pub mod Floor
pub mod Leakage
pub mod Laws
