pub mod Changes
pub mod Behaving
