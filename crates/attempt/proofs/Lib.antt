pub mod Steps
pub mod Resting
pub mod Blaming
pub mod Knowing
pub mod Attempting
pub mod Settling
pub mod Engines
pub mod Running
