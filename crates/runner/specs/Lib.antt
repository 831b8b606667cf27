pub mod Answers
pub mod Audit
pub mod Progress
pub mod Transcript
