pub mod Digits
pub mod Splitting
pub mod Commands
pub mod Feeding
pub mod Chosen
