pub mod Firsts
mod Listings
