pub mod CapturesLemmas
pub mod FindLemmas
pub mod WorkLemmas
pub mod AnswerLemmas
pub mod HalfListLemmas
pub mod HalvesLemmas
