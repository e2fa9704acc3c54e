pub mod Meaning
pub mod Cell
pub mod Capacitor
pub mod Bank
pub mod Laws
