pub mod Capacities
pub mod Laws
pub mod Square
pub mod Triangle
pub mod SquareLemmas
pub mod Rows
pub mod TriangleLemmas
pub mod Starts
