pub mod Limits
pub mod Layout
pub mod Rules
pub mod Contents
pub mod Faults
pub mod Laws
