pub mod Orders
pub mod Sets
pub mod Tables
pub mod Rule
pub mod Answers
