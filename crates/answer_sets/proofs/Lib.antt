pub mod EachRule
