pub mod Giving
mod Pieces
pub mod Readers
