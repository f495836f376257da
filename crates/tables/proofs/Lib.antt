pub mod Kept
pub mod Faithfulness
