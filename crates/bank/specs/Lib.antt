pub mod Faults
pub mod Meaning
pub mod Laws
pub mod Makings
pub mod Runs
pub mod Behaviour
