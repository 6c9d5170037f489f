-- The parting of a command line goes on by a word, and ends if no word is left.
use Rattle.std.proofs.Common.{◌≡◌, ◌∙◌, ◌≤◌, ◌<◌, ℕ, ◌+◌, List, ◌∷◌, ◌++◌, length, drop, ap, sym, refl, add-one, append_assoc, append-nil, drop-cons, Bor, slice_index_or}
use Rattle.std.proofs.lemmas.List.{drop_all}
use Rattle.program_text.specs.Parting.{gathered, mode_next}
use Rattle.program_text.specs.declared.split.Mode.{Mode}
use Rattle.program_text.specs.declared.words.Word.{Word}

module _ (valued : List (Bor (List ℕ))) (part : Mode → Word → List Word) (words : List Word) where
  -- what was gathered so far, with what the words from this one on give
  abbrev pub with_left : List Word → Mode → ℕ → List Word
  with_left before mode i = before ++ gathered valued part mode (drop i words)

  pub goes-on : (all before after : List Word) (mode : Mode) (i : ℕ) (d : Word) → i < length words
      → all ≡ with_left before mode i
      → after ≡ before ++ part mode (slice_index_or words i d)
      → all ≡ with_left after (mode_next valued mode (slice_index_or words i d)) (i + 1)
  unfolding gathered
  goes-on all before after mode i d within known is =
      let word = slice_index_or words i d in
      let next = mode_next valued mode word in
      let cut : drop i words ≡ word ∷ drop (i + 1) words = rw (drop-cons words i d, add-one) refl in
      known ∙ ap (λ rest. before ++ gathered valued part mode rest) cut
      ∙ sym (append_assoc before (part mode word) (gathered valued part next (drop (i + 1) words)))
      ∙ ap (λ front. with_left front next (i + 1)) (sym is)

  pub ends : (all before : List Word) (mode : Mode) (i : ℕ) → length words ≤ i
      → all ≡ with_left before mode i → before ≡ all
  unfolding gathered
  ends all before mode i none known =
      sym (known ∙ ap (λ rest. before ++ gathered valued part mode rest) (drop_all i words none)
      ∙ append-nil before)
