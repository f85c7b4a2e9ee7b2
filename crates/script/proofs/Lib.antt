pub mod Writing
pub mod Speaking
pub mod Worked
