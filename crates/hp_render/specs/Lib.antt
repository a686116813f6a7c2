pub mod AnswerWords
pub mod ResolutionText
pub mod Text
pub mod VectorText
