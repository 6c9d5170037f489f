-- From the results of a search to the answers that its callers get.
use Rattle.nfa_paths.proofs.Common.{◌≡◌, ℕ, [], ◌∷◌, arith, length, refl, ap, ◌∙◌, Option, Some, None, false, replicate, IfNone, refill, Search, Automaton, IsAnswer, Slots, LeftmostFirst}
use Rattle.nfa_search_base.proofs.AskingLemmas.{slots-none}

-- slots that are written whole are what was written
refill-whole : (slots written : Slots) → length written ≡ length slots → refill (length slots) slots written ≡ written
refill-whole [] [] size = refl
refill-whole [] (w ∷ written) size = absurd (omega arith)
refill-whole (k ∷ slots) [] size = absurd (omega arith)
refill-whole (k ∷ slots) (w ∷ written) size = ap (λ l. w ∷ l) (refill-whole slots written (omega arith))

-- captures whose slots an answer without a match wrote
pub unmatched-slots : {nfa : Automaton} {x : Search} {written : Slots} {n : ℕ} (pattern : Option ℕ) (slots : Slots)
    → length slots ≡ n → length written ≡ length slots → IsAnswer nfa LeftmostFirst false x pattern written
    → IfNone pattern (refill (length slots) slots written ≡ replicate n None)
unmatched-slots {written = written} None slots size whole a =
    refill-whole slots written whole ∙ slots-none None a (whole ∙ size)
unmatched-slots (Some p) slots size whole a = tt
