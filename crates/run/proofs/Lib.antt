pub mod Words
pub mod Ready
pub mod Laws
pub mod Exact
pub mod Attempting
pub mod Cells
pub mod Asking
