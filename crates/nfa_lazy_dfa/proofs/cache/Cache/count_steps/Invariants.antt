-- A step was counted for each position so far.
use Rattle.std.proofs.Common.{◌≡◌, ◌+◌, ◌-◌, ◌≤◌}
use Rattle.nfa_lazy_dfa.specs.Rows.{IsFor, Spends}
use Rattle.nfa_lazy_dfa.proofs.cache.Cache.count_steps.Given as goal

abbrev pub invariant-loop-at : goal.invariant-loop-at
invariant-loop-at l = record {
  own : IsFor l.self l.dfa;
  same : l.self.stands.items ≡ l.fn.self.stands.items;
  low : l.fn.from ≤ l.at;
  high : l.at ≤ l.to;
  spends : Spends l.fn.self l.self (l.at - l.fn.from) 0;
  counts : l.self.steps ≡ l.fn.self.steps + (l.at - l.fn.from);
}

abbrev pub decreases-loop-at : goal.decreases-loop-at
decreases-loop-at l = l.to - l.at
