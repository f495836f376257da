pub mod Sound
pub mod Fits
pub mod Picking
pub mod Between
