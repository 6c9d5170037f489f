-- The byte above is treated alike.
use Rattle.std.proofs.Common.{◌+◌, ◌∙◌, arith}
use Rattle.nfa_lazy_dfa.specs.Cuts.{IsUncut}
use Rattle.nfa_lazy_dfa.proofs.WorkLemmas.{Spends-both}
use Rattle.nfa_lazy_dfa.proofs.CutLemmas.{leads-alike, leads-same}
use Rattle.nfa_lazy_dfa.proofs.cache.Cache.write_up.Goals as goal

pub write-requires-clause-leads : goal.write-requires-clause-leads
write-requires-clause-leads c =
    let dfa = c.args.dfa.now in
    let high = c.loop-high.high in
    let uncut : IsUncut dfa.cuts high = record { below = omega arith; clear = c.if-not-dfa-high.true } in
    leads-alike dfa c.loop-high.self c.args.row high (high + 1) c.args.target (dfa.cuts_are.alike high uncut)
    c.loop-high.invariant.leads

pub loop-high-preserved : goal.loop-high-preserved
loop-high-preserved c =
    let dfa = c.args.dfa.now in
    let high = c.loop-high.high in
    let uncut : IsUncut dfa.cuts high = record { below = omega arith; clear = c.if-not-dfa-high.true } in
    record {
      own = c.write.ensures.own;
      same = c.write.ensures.same ∙ c.loop-high.invariant.same;
      leads = leads-same dfa c.loop-high.self c.write.new.self c.args.row (high + 1) c.args.target c.write.ensures.same
          (leads-alike dfa c.loop-high.self c.args.row high (high + 1) c.args.target (dfa.cuts_are.alike high uncut)
          c.loop-high.invariant.leads);
      spends = Spends-both c.args.self.now c.loop-high.self c.write.new.self 0 0 0 0 c.loop-high.invariant.spends
          c.write.ensures.spends;
    }
