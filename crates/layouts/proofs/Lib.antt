pub mod Doubling
pub mod RowSearch
