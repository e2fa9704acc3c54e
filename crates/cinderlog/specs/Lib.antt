pub mod Matter
pub mod Session
