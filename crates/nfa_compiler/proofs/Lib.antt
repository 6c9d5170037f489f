pub mod LookLemmas
pub mod BlockLemmas
pub mod StartLemmas
pub mod SearchLemmas
pub mod AddLemmas
pub mod CompiledLemmas
pub mod MeantLemmas
pub mod EachLemmas
pub mod WayLemmas
pub mod ExistsLemmas
pub mod UnboundLemmas
pub mod CallLemmas
pub mod AllSearchLemmas
pub mod BoundarySearchLemmas
pub mod KindLemmas
pub mod CharacterLemmas
pub mod StrLemmas
pub mod WrittenLemmas
pub mod Literals
pub mod Spelling
pub mod ReadLemmas
pub mod Denotes
pub mod Octets
mod EscapeLemmas
mod Examples
