-- What a reader has to believe, in the order in which to read it.
pub mod Text
pub mod Lines
pub mod Transcript
