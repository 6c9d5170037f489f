-- A pattern below the capacity is added.
use Rattle.nfa_paths.proofs.Common.{◌≡◌, ◌+◌, ◌∷◌, ◌++◌, [], length, map, take, ap, sym, ◌∙◌, map-append, take_more, number_of, PatternID}
use Rattle.nfa_lazy_dfa.proofs.AddLemmas.{AddsEach-in, AddsEach-out, below-of, not-below}
use Rattle.nfa_lazy_dfa.proofs.overlap.add_each.Goals as goal
use Rattle.nfa_lazy_dfa.proofs.overlap.add_each.Goals.{then-is_some, else-is_some}

pub loop-pattern-preserved : goal.loop-pattern-preserved
loop-pattern-preserved c =
    let hits = c.args.hits.now in
    let i = c.loop-pattern.pattern-index in
    let p = c.pattern-item.result in
    let mid = c.loop-pattern.patterns in
    let old = c.args.patterns.now in
    let e = c.loop-pattern.invariant in
    let more : map number_of (take (i + 1) hits) ≡ map number_of (take i hits) ++ number_of p ∷ [] =
    ap (map number_of) (take_more hits i p c.loop-pattern-test.true
    ∙ ap (λ (q : PatternID). take i hits ++ q ∷ []) (sym c.pattern-item.is))
    ∙ map-append number_of (take i hits) (p ∷ []) in
    elim c.if-is_some.branch [
      | then-is_some w ↦ rw (more, w.met-is, c.try_insert.ensures.after)
          (AddsEach-in (map number_of (take i hits)) old mid c.loop-pattern.met (number_of p) e
          (below-of (number_of p) (length mid) c.try_insert.result _ c.try_insert.ensures.answer
          (sym c.is_some.ensures ∙ w.if-is_some.true)))
      | else-is_some w ↦ rw (more, w.met-is, c.try_insert.ensures.after)
          (AddsEach-out (map number_of (take i hits)) old mid c.loop-pattern.met (number_of p) e
          (not-below (number_of p) (length mid) c.try_insert.result _ c.try_insert.ensures.answer
          (sym c.is_some.ensures ∙ w.if-is_some.false)))
    ]
