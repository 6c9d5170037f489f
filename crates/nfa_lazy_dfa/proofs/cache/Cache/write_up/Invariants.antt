-- The byte leads from the row to the target.
use Rattle.std.proofs.Common.{◌≡◌, ◌-◌}
use Rattle.nfa_lazy_dfa.specs.Rows.{IsFor, LeadsTo, Spends}
use Rattle.nfa_lazy_dfa.proofs.cache.Cache.write_up.Given as goal

abbrev pub invariant-loop-high : goal.invariant-loop-high
invariant-loop-high l = record {
  own : IsFor l.self l.dfa;
  same : l.self.stands.items ≡ l.fn.self.stands.items;
  leads : LeadsTo l.dfa l.self l.self l.row l.high l.target;
  spends : Spends l.fn.self l.self 0 0;
}

abbrev pub decreases-loop-high : goal.decreases-loop-high
decreases-loop-high l = 255 - l.high
