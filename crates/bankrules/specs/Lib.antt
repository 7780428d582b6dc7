pub mod Rules
pub mod Register
pub mod Bus
pub mod Quiet
pub mod Pairs
pub mod Injections
pub mod Free
