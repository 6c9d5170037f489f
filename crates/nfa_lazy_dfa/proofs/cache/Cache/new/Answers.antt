-- There are no rows.
use Rattle.std.proofs.Common.{refl, arith}
use Rattle.nfa_lazy_dfa.specs.Rows.{IsFor, stances_of}
use Rattle.nfa_lazy_dfa.proofs.FirstLemmas.{AreFirsts-none}
use Rattle.nfa_lazy_dfa.proofs.RowLemmas.{AreRows-none}
use Rattle.nfa_lazy_dfa.proofs.cache.Cache.new.Goals as goal

pub returns-clause-own : goal.returns-clause-own
unfolding IsFor
returns-clause-own c = record {
  rows = rw (c.new.ensures.items, c.new-2.ensures.items, c.new-3.ensures.items)
      (AreRows-none c.args.dfa.now.nfa c.args.dfa.now.kind);
  firsts = AreFirsts-none c.args.dfa.now.nfa.anchored (stances_of c.new-2.result.items);
  taken = rw c.new-2.ensures.items refl;
  fits = omega arith;
}
