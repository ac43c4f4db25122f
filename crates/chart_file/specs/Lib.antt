pub mod Text
pub mod Chart
pub mod Printed
pub mod Output
pub mod Laws
pub mod Turns
