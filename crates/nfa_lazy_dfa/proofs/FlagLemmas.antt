-- The `earliest` flag of an input changes no path, and so no set of patterns.
use Rattle.nfa_paths.proofs.Common.{inl, inr, Bool, List, Search, Automaton}
use Rattle.nfa_paths.proofs.EarliestLemmas.{asked}
use Rattle.nfa_paths.proofs.FlagSetLemmas.{permitted-pattern}
use Rattle.nfa_lazy_dfa.specs.Sets.{IsPartOfOverlap}

pub part-same : (nfa : Automaton) (x : Search) (flag earliest : Bool) (old new : List Bool)
    → IsPartOfOverlap nfa (asked x flag) earliest old new → IsPartOfOverlap nfa x earliest old new
part-same nfa x flag earliest old new r = record {
  capacity = r.capacity;
  keeps = r.keeps;
  sound = λ k h. elim (r.sound k h) [
    | inl o ↦ inl o
    | inr w ↦ inr (w.0, permitted-pattern nfa x flag k w.1)
  ];
  none = r.none;
}
