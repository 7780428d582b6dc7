pub mod States
pub mod Moving
pub mod Answers
pub mod Making
pub mod Tickets
