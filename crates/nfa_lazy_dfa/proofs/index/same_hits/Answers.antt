-- Lists of patterns with the same numbers have the same numbers.
use Rattle.nfa_paths.proofs.Common.{◌≡◌, ◌<◌, ℕ, inl, inr, get_or, length, map, ap, sym, ◌∙◌, subst, arith, cases_lt, ext_get_or, get_or-map, length-map, number_of}
use Rattle.nfa_lazy_dfa.proofs.index.same_hits.Goals as goal

pub loop-index-preserved : goal.loop-index-preserved
loop-index-preserved c = λ k less.
    let a = c.args.a.now in
    let b = c.args.b.now in
    let i = c.loop-index.index in
    let p = c.index-a-index.result in
    let q = c.index-b-index.result in
    let in_a : i < length a = omega arith in
    let in_b : i < length b = omega arith in
    let of_a : get_or (map number_of a) i 0 ≡ number_of p =
    get_or-map number_of a i p 0 in_a ∙ sym (ap number_of c.index-a-index.is) in
    let of_b : get_or (map number_of b) i 0 ≡ number_of q =
    get_or-map number_of b i q 0 in_b ∙ sym (ap number_of c.index-b-index.is) in
    let same : number_of p ≡ number_of q =
    omega (arith, c.as_usize.ensures.value, c.as_usize-in-loop-index.ensures.value, c.if-as_usize.false) in
    elim (cases_lt k i) [
      | inl before ↦ c.loop-index.invariant k before
      | inr now ↦
          let here : k ≡ i = omega arith in
          subst (λ (n : ℕ). get_or (map number_of a) n 0 ≡ get_or (map number_of b) n 0) (sym here)
          (of_a ∙ same ∙ sym of_b)
    ]

pub returns : goal.returns
returns c = λ e.
    let a = c.args.a.now in
    let b = c.args.b.now in
    ext_get_or 0 (map number_of a) (map number_of b)
    (omega (arith, length-map a number_of, length-map b number_of))
    (λ k less. c.loop-index.invariant k (omega (arith, length-map a number_of)))
