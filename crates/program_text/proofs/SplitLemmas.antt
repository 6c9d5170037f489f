-- The split of a command line goes on by a word, and ends if no word is left.
use Rattle.std.proofs.Common.{◌≡◌, ◌∙◌, ◌≤◌, ◌<◌, ℕ, ◌+◌, List, ◌∷◌, ◌++◌, length, map, drop, ap, sym, refl, add-one, append_assoc, append-nil, drop-cons, Bor, slice_index_or}
use Rattle.std.proofs.lemmas.List.{drop_all}
use Rattle.program_text.specs.Splitting.{mode_after, split_from, words_of}
use Rattle.program_text.specs.declared.split.Mode.{Mode}

module _ (letter : ℕ) (short long : List ℕ) (words : List (Bor (List ℕ))) where
  -- the texts of the words from this one on
  abbrev pub left : ℕ → List (List ℕ)
  left i = map (λ word. word.now) (drop i words)

  cut : (i : ℕ) (d : Bor (List ℕ)) → i < length words → left i ≡ (slice_index_or words i d).now ∷ left (i + 1)
  cut i d within = rw (drop-cons words i d, add-one) refl

  -- what is split so far, with the words that are left split
  abbrev pub with_left : List (List ℕ) → Mode → List (List ℕ) → List (List ℕ)
  with_left before mode texts = before ++ split_from letter short long mode texts

  pub goes-on : (all before after : List (List ℕ)) (mode : Mode) (i : ℕ) (d : Bor (List ℕ)) → i < length words
      → all ≡ with_left before mode (left i)
      → after ≡ before ++ words_of letter short mode (slice_index_or words i d).now
      → all ≡ with_left after (mode_after letter long mode (slice_index_or words i d).now) (left (i + 1))
  unfolding split_from
  goes-on all before after mode i d within known is =
      let word = (slice_index_or words i d).now in
      let next = mode_after letter long mode word in
      known ∙ ap (λ texts. with_left before mode texts) (cut i d within)
      ∙ sym (append_assoc before (words_of letter short mode word) (split_from letter short long next (left (i + 1))))
      ∙ ap (λ front. with_left front next (left (i + 1))) (sym is)

  pub ends : (all before : List (List ℕ)) (mode : Mode) (i : ℕ) → length words ≤ i
      → all ≡ with_left before mode (left i) → before ≡ all
  unfolding split_from
  ends all before mode i none known =
      sym (known ∙ ap (λ rest. with_left before mode (map (λ word. word.now) rest)) (drop_all i words none)
      ∙ append-nil before)
