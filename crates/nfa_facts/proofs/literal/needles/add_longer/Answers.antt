-- A byte of the level makes one text more, and another one none.
use Rattle.std.proofs.lemmas.List.{map_push}
use Rattle.nfa_paths.proofs.Common.{◌≡◌, ◌∙◌, ◌++◌, ◌∷◌, [], ℕ, ◌+◌, Vec, ap, arith, cases_lt, get_or, inl, inr, length, length_push, subst}
use Rattle.std.specs.declared.alloc.Global.{Global}
use Rattle.nfa_facts.specs.Needles.{BeginsWithOne, texts_now}
use Rattle.nfa_facts.proofs.NeedleLemmas.{begins-last, begins-push, occurs-longer}
use Rattle.nfa_facts.proofs.literal.needles.add_longer.Goals.{then-level-byte+in_ok-with_byte+in_ok-push, else-level-byte}
use Rattle.nfa_facts.proofs.literal.needles.add_longer.Goals as goal

pub loop-byte-preserved : goal.loop-byte-preserved
loop-byte-preserved c =
    let text = c.args.text.now in
    let byte = c.loop-byte.byte in
    let old = texts_now c.loop-byte.longer.items in
    elim c.if-level-byte.branch [
      | then-level-byte+in_ok-with_byte+in_ok-push w ↦
          let more = text ++ byte ∷ [] in
          let new : texts_now c.if-level-byte.longer.items ≡ old ++ more ∷ [] =
          ap (λ (v : Vec (Vec ℕ Global) Global). texts_now v.items) w.longer-is
          ∙ ap texts_now w.in_ok-push.ensures.items ∙ map_push (λ (v : Vec ℕ Global). v.items) _ _
          ∙ ap (λ t. old ++ t ∷ []) w.in_ok-with_byte.ensures in
          rw new
          (record {
            keeps = λ hay count k there. begins-push hay old more count k
                (c.loop-byte.invariant.keeps hay count k there);
            adds = λ hay k occurs inside has less.
                elim (cases_lt (get_or hay (k + length text) 0) byte) [
                  | inl before ↦
                      begins-push hay old more (length text + 1) k
                      (c.loop-byte.invariant.adds hay k occurs inside has before)
                  | inr past ↦
                      let same : get_or hay (k + length text) 0 ≡ byte = omega (arith, past, less) in
                      subst (λ n. BeginsWithOne hay (old ++ more ∷ []) n k) (length_push text byte)
                      (begins-last hay old more k (occurs-longer hay text byte k occurs inside same))
                ];
          })
      | else-level-byte w ↦
          rw w.longer-is
          (record {
            keeps = c.loop-byte.invariant.keeps;
            adds = λ hay k occurs inside has less.
                elim (cases_lt (get_or hay (k + length text) 0) byte) [
                  | inl before ↦ c.loop-byte.invariant.adds hay k occurs inside has before
                  | inr past ↦
                      let same : get_or hay (k + length text) 0 ≡ byte = omega (arith, past, less) in
                      absurd (cc (has, same, w.if-level-byte.false))
                ];
          })
    ]
