pub mod Kinds
pub mod Rows
pub mod Runs
