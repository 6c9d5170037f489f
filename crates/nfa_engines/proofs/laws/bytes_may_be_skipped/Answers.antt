-- Where no match begins with a byte, none starts at it.
use Rattle.nfa_paths.proofs.FirstStartLemmas.{next-first, nothing-at-byte, start-first}
use Rattle.nfa_engines.proofs.laws.bytes_may_be_skipped.Goals as goal

pub returns : goal.returns
returns c = record {
  nothing = nothing-at-byte;
  first = start-first;
  moves = λ nfa x s byte first read none. next-first nfa x s first (nothing-at-byte nfa x s byte none read);
}
