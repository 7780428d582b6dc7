pub mod Files
pub mod Running
pub mod Asking
