pub mod Exports
pub mod Runs
pub mod Worked
