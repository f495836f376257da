pub mod Rules
pub mod Closing
pub mod AnswerSets
