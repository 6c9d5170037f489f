-- One group more has its span.
use Rattle.nfa_paths.proofs.Common.{◌≡◌, ◌∙◌, ◌+◌, ◌<◌, ℕ, List, Some, ap, arith, below_more, get_or-set_other, get_or-set_same, group_span, length, length-set, set, slice_get, sym}
use Rattle.std.proofs.lemmas.Option.{slice_get-get_or}
use Rattle.nfa_meta.proofs.group_spans.extract.Goals as goal

module _ {A : Type 0} (xs : List A) (i : ℕ) (y : A) (inside : i < length xs) where
  -- the element that was set is there
  get-set : slice_get (set xs i y) i ≡ Some y
  get-set = slice_get-get_or (set xs i y) i y (omega (arith, length-set xs i y, inside))
      ∙ ap Some (get_or-set_same xs i y y inside)

  -- and those before it stay
  get-set_before : (k : ℕ) → k < i → slice_get (set xs i y) k ≡ slice_get xs k
  get-set_before k less =
      slice_get-get_or (set xs i y) k y (omega (arith, length-set xs i y, inside, less))
      ∙ ap Some (get_or-set_other xs i k y y (λ e. omega (arith, e, less)))
      ∙ sym (slice_get-get_or xs k y (omega (arith, inside, less)))

pub loop-index-preserved : goal.loop-index-preserved
loop-index-preserved g c =
    let groups = c.loop-index.groups in
    let index = c.loop-index.index in
    let span = c.in_ok-groups.field-0 in
    let before = c.loop-index.invariant in
    let inside : index < length groups = omega (arith, c.loop-index-test.true, before.long) in
    let here : Some span ≡ group_span c.args.captures.now (index + 1) =
    grind (arith, c.in_ok-groups.was, c.in_ok-groups.is, c.get_group-in-loop-index.ensures) in
    record {
      long = length-set groups index span ∙ before.long;
      spans = below_more (λ k. slice_get (set groups index span) k ≡ group_span c.args.captures.now (k + 1)) index
          (λ k less. get-set_before groups index span inside k less ∙ before.spans k less)
          (get-set groups index span inside ∙ here);
    }
