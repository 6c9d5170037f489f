-- A lone state is followed from position to position.
use Rattle.nfa_paths.proofs.Common.{arith, refl, sym, ◌∙◌}
use Rattle.nfa_pikevm_scan.proofs.LoneLemmas.{Joined-lone, MayCross-joined, ScansFirst-match, ScansFirst-miss}
use Rattle.nfa_pikevm_scan.proofs.RowLemmas.{HaveRows-kept, KeepsThreads-then}
use Rattle.nfa_pikevm_scan.proofs.scan.run_lone.Goals as goal

pub nexts_of_lone-requires-clause-ready : goal.nexts_of_lone-requires-clause-ready
nexts_of_lone-requires-clause-ready c = grind (arith, MayCross-joined, Joined-lone, HaveRows-kept)

pub loop-at-preserved-then-is_some : goal.loop-at-preserved-then-is_some
loop-at-preserved-then-is_some c = record {
  low = omega arith;
  keeps = KeepsThreads-then c.loop-at.invariant.keeps c.nexts_of_lone.ensures.keeps;
  first = λ base begun.
      let s = c.loop-at.invariant.first base begun in
      ScansFirst-match s c.requires.starts (Joined-lone s refl (c.is_lone.ensures.0 c.loop-at-test.true))
      c.nexts_of_lone.ensures.keeps c.nexts_of_lone.ensures.next c.nexts_of_lone.ensures.crosses c.half_at-hit.result
      c.half_at-hit.ensures (sym c.is_some.ensures ∙ c.if-is_some.true);
}

pub loop-at-preserved : goal.loop-at-preserved
loop-at-preserved c = record {
  low = omega arith;
  keeps = KeepsThreads-then c.loop-at.invariant.keeps c.nexts_of_lone.ensures.keeps;
  first = λ base begun.
      let s = c.loop-at.invariant.first base begun in
      ScansFirst-miss s c.requires.starts (Joined-lone s refl (c.is_lone.ensures.0 c.loop-at-test.true))
      c.nexts_of_lone.ensures.keeps c.nexts_of_lone.ensures.next c.nexts_of_lone.ensures.crosses c.half_at-hit.result
      c.half_at-hit.ensures (sym c.is_some.ensures ∙ c.if-is_some.false);
}
