pub mod Finding
pub mod Bits
pub mod Relations
pub mod Tables
pub mod Placing
pub mod Executes
pub mod Exactness
pub mod Alike
