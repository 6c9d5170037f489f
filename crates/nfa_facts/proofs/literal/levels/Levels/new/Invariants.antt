-- Each accepting path reads a byte of each level so far.
use Rattle.nfa_paths.proofs.Common.{◌≡◌, length}
use Rattle.nfa_facts.proofs.LevelLemmas.{AllClimb}
use Rattle.nfa_facts.proofs.literal.levels.Levels.new.Given as goal

abbrev pub invariant-loop-count : goal.invariant-loop-count
invariant-loop-count l = record {
  many : length l.levels ≡ 8;
  room : l.here.room ≡ length l.nfa.states;
  climb : AllClimb l.nfa l.levels l.count l.here.states;
}
