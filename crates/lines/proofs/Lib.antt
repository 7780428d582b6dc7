pub mod Places
pub mod Joined
pub mod Splitting
pub mod ReadBack
