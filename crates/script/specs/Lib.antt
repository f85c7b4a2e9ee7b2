pub mod Faults
pub mod Printing
pub mod Sessions
pub mod Talking
pub mod Example
