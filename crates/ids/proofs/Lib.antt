pub mod Stacked
pub mod Live
pub mod Vacating
pub mod Adding
pub mod Series
pub mod Populating
