pub mod AnsweredLemmas
