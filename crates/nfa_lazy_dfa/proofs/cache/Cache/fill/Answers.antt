-- The row that was followed is still there, or all rows are new.
use Rattle.std.proofs.Common.{List, ap, ◌∙◌, slice_get}
use Rattle.nfa_lazy_dfa.specs.Rows.{LeadsTo, stances_of}
use Rattle.nfa_lazy_dfa.specs.Stances.{stance_of}
use Rattle.nfa_lazy_dfa.proofs.CutLemmas.{leads-same}
use Rattle.nfa_lazy_dfa.proofs.CacheLemmas.{below-at, row-is}
use Rattle.nfa_lazy_dfa.specs.declared.follow.Stand.{Stand}
use Rattle.nfa_lazy_dfa.proofs.cache.Cache.fill.Goals as goal
use Rattle.nfa_lazy_dfa.proofs.cache.Cache.fill.Goals.{Then-kept}

pub follow-requires-clause-below : goal.follow-requires-clause-below
follow-requires-clause-below c =
    below-at c.args.self.now c.args.dfa.now c.requires.own c.args.row c.index.result.now c.requires.row c.index.ensures

-- the row that was followed is still there
kept : (c : Then-kept) → LeadsTo c.args.dfa.now c.intern.new.self c.intern.new.self c.args.row c.args.byte
    c.in_ok-target.target
kept c =
    let from = stance_of c.index.result.now in
    let was = row-is c.args.self.now c.args.row c.index.result.now c.requires.row c.index.ensures in
    record {
      from = from;
      was = c.in_ok-target.ensures.keeps c.if-kept.true c.args.row from was;
      to = stance_of c.in_ok-stand.stand;
      is = c.in_ok-target.ensures.row;
      next = c.in_ok-stand.ensures.next;
    }

pub write-requires-clause-leads : goal.write-requires-clause-leads
write-requires-clause-leads c = kept (goal.at.write-requires-clause-leads c).Then-kept

pub returns-then-kept-clause-leads : goal.returns-then-kept-clause-leads
returns-then-kept-clause-leads c = record {
  from = stance_of c.index.result.now;
  was = row-is c.args.self.now c.args.row c.index.result.now c.requires.row c.index.ensures;
  to = stance_of c.in_ok-stand.stand;
  is = ap (λ (s : List Stand). slice_get (stances_of s) c.in_ok-target.target)
      (c.write_up.ensures.same ∙ c.write_down.ensures.same ∙ c.write.ensures.same)
      ∙ c.in_ok-target.ensures.row;
  next = c.in_ok-stand.ensures.next;
}

pub returns-else-kept-clause-leads : goal.returns-else-kept-clause-leads
returns-else-kept-clause-leads c = record {
  from = stance_of c.index.result.now;
  was = row-is c.args.self.now c.args.row c.index.result.now c.requires.row c.index.ensures;
  to = stance_of c.in_ok-stand.stand;
  is = c.in_ok-target.ensures.row;
  next = c.in_ok-stand.ensures.next;
}

pub write_down-requires-clause-leads : goal.write_down-requires-clause-leads
write_down-requires-clause-leads c =
    leads-same c.args.dfa.now c.intern.new.self c.write.new.self c.args.row c.args.byte c.in_ok-target.target
    c.write.ensures.same (kept (goal.at.write_down-requires-clause-leads c).Then-kept)

pub write_up-requires-clause-leads : goal.write_up-requires-clause-leads
write_up-requires-clause-leads c =
    leads-same c.args.dfa.now c.intern.new.self c.write_down.new.self c.args.row c.args.byte c.in_ok-target.target
    (c.write_down.ensures.same ∙ c.write.ensures.same) (kept (goal.at.write_up-requires-clause-leads c).Then-kept)
