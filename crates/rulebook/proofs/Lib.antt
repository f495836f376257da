mod Settling
mod Following
