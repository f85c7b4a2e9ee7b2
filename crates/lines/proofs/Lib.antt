pub mod Numerals
pub mod Pieces
pub mod Arguments
pub mod Keeping
pub mod Coming
pub mod Profiles
