pub mod CuttingLaws
pub mod StatusLaws
pub mod TakingLaws
