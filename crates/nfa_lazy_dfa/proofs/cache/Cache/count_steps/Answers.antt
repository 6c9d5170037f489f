-- A step more is counted.
use Rattle.std.proofs.Common.{◌-◌, refl, arith}
use Rattle.nfa_lazy_dfa.proofs.CacheLemmas.{IsFor-same}
use Rattle.nfa_lazy_dfa.proofs.WorkLemmas.{Spends-none}
use Rattle.nfa_lazy_dfa.specs.declared.cache.Cache.{Cache}
use Rattle.nfa_lazy_dfa.proofs.cache.Cache.count_steps.Goals as goal

pub loop-at-init : goal.loop-at-init
loop-at-init c = record {
  own = c.requires.own;
  same = refl;
  low = omega arith;
  high = c.requires.order;
  spends = Spends-none c.args.self.now (c.args.from - c.args.from) 0;
  counts = omega arith;
}

pub loop-at-preserved : goal.loop-at-preserved
loop-at-preserved c =
    let old = c.loop-at.self in
    let new : Cache = record old { steps = c.tick.new.self } in
    let before = c.loop-at.invariant.spends in
    record {
      own = IsFor-same c.args.dfa.now old new refl refl refl refl refl c.loop-at.invariant.own;
      same = c.loop-at.invariant.same;
      low = omega arith;
      high = omega arith;
      spends = record {
        scans = before.scans;
        steps = omega (arith, before.steps, c.tick.ensures);
        grows = omega (arith, before.grows, c.tick.ensures);
        rows = omega (arith, before.rows, c.tick.ensures);
        clears = before.clears;
      };
      counts = omega (arith, c.loop-at.invariant.counts, c.tick.ensures);
    }
