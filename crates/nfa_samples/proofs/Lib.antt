pub mod CountLemmas
pub mod StateTableLemmas
