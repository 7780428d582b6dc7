pub mod Orders
pub mod Bank
pub mod Ranges
pub mod Raisings
pub mod Readiness
pub mod Law
pub mod Opening
pub mod Playing
