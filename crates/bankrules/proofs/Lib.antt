pub mod Ruling
pub mod Descents
pub mod Telling
pub mod Injecting
pub mod Pairing
pub mod Freeing
