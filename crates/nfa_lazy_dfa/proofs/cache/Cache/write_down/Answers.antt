-- The byte below is treated alike.
use Rattle.std.proofs.Common.{◌≡◌, ◌+◌, ◌-◌, ◌∙◌, subst, arith}
use Rattle.nfa_lazy_dfa.specs.Cuts.{IsAlike, IsUncut}
use Rattle.nfa_lazy_dfa.specs.Rows.{LeadsTo}
use Rattle.nfa_lazy_dfa.proofs.WorkLemmas.{Spends-both}
use Rattle.nfa_lazy_dfa.proofs.CutLemmas.{alike-back, leads-alike, leads-same}
use Rattle.nfa_lazy_dfa.proofs.cache.Cache.write_down.Goals as goal
use Rattle.nfa_lazy_dfa.proofs.cache.Cache.write_down.Goals.{Then-not-dfa-low}

-- the byte below leads there too
below : (c : Then-not-dfa-low) → LeadsTo c.args.dfa.now c.loop-low.self c.loop-low.self c.args.row (c.loop-low.low - 1)
    c.args.target
below c =
    let dfa = c.args.dfa.now in
    let low = c.loop-low.low in
    let uncut : IsUncut dfa.cuts (low - 1) = record { below = omega arith; clear = c.if-not-dfa-low.true } in
    let back : low - 1 + 1 ≡ low = omega arith in
    let alike : IsAlike dfa.nfa dfa.looks (low - 1) low =
    subst (IsAlike dfa.nfa dfa.looks (low - 1)) back (dfa.cuts_are.alike (low - 1) uncut) in
    leads-alike dfa c.loop-low.self c.args.row low (low - 1) c.args.target
    (alike-back dfa.nfa dfa.looks (low - 1) low alike) c.loop-low.invariant.leads

pub write-requires-clause-leads : goal.write-requires-clause-leads
write-requires-clause-leads c = below (goal.at.write-requires-clause-leads c).Then-not-dfa-low

pub loop-low-preserved : goal.loop-low-preserved
loop-low-preserved c = record {
  own = c.write.ensures.own;
  same = c.write.ensures.same ∙ c.loop-low.invariant.same;
  leads = leads-same c.args.dfa.now c.loop-low.self c.write.new.self c.args.row (c.loop-low.low - 1) c.args.target
      c.write.ensures.same (below (goal.at.loop-low-preserved c).Then-not-dfa-low);
  spends = Spends-both c.args.self.now c.loop-low.self c.write.new.self 0 0 0 0 c.loop-low.invariant.spends
      c.write.ensures.spends;
}
