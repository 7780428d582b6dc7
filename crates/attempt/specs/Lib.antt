pub mod Keeping
pub mod Runs
pub mod Blames
pub mod Attempts
pub mod Settling
