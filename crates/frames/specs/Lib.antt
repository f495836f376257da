pub mod Digits
pub mod Frames
pub mod AnswerLines
pub mod Faults
