pub mod Words
pub mod Sets
pub mod Settling
pub mod Conditions
pub mod Faults
