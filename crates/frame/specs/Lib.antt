pub mod Fault
pub mod Prefix
pub mod Digits
pub mod Frame
pub mod Answer
