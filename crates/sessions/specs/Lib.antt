pub mod Registers
pub mod Injected
pub mod Sessions
