-- There are no rows.
use Rattle.std.proofs.Common.{refl, arith}
use Rattle.nfa_lazy_dfa.specs.Rows.{IsFor, stances_of}
use Rattle.nfa_lazy_dfa.proofs.FirstLemmas.{AreFirsts-none}
use Rattle.nfa_lazy_dfa.proofs.RowLemmas.{AreRows-none}
use Rattle.nfa_lazy_dfa.proofs.cache.Cache.clear.Goals as goal

pub returns-clause-own : goal.returns-clause-own
unfolding IsFor
returns-clause-own c = record {
  rows = rw (c.clear.ensures.items, c.clear-2.ensures.items, c.clear-3.ensures.items)
      (AreRows-none c.args.dfa.now.nfa c.args.dfa.now.kind);
  firsts = AreFirsts-none c.args.dfa.now.nfa.anchored (stances_of c.clear-2.new.self.items);
  taken = rw c.clear-2.ensures.items refl;
  fits = omega arith;
}
