pub mod Ids
pub mod Stack
pub mod Record
pub mod Calls
pub mod Series
pub mod Populating
