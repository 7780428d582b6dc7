pub mod Frames
pub mod Reads
