pub mod Grown
mod Moves
mod Lifted
mod Runs
