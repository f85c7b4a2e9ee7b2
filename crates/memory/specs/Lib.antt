pub mod Access
pub mod Words
pub mod Layers
pub mod Kinds
