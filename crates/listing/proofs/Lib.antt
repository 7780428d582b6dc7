pub mod Printed
pub mod Rising
