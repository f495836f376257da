pub mod Narrowing
pub mod Support
