pub mod Exclusion
pub mod Naming
pub mod Printing
pub mod Ignoring
