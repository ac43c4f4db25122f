pub mod Printing
pub mod Running
pub mod Laws
