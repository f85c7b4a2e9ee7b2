pub mod Traces
pub mod Words
pub mod Lent
pub mod Windows
pub mod Pads
