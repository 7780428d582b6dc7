pub mod Records
pub mod Wiring
pub mod Checking
pub mod Reading
pub mod Files
