pub mod First
pub mod Filters
pub mod Orders
pub mod Listed
