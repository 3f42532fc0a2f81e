pub mod AskLemmas
pub mod AnswerLemmas
