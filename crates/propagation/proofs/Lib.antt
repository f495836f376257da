mod HeadLaws
mod BodyLaws
pub mod Steps
mod SupportLaws
mod FoundedLaws
