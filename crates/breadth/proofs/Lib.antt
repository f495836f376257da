mod Agreeing
mod Counting
pub mod DecisiveSets
