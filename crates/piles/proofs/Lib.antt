pub mod Stacks
pub mod Rows
