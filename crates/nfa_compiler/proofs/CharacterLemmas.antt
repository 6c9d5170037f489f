-- A pattern that is read under `utf8` matches whole characters of a `str`.
use Rattle.regex_hir.specs.declared.hir.Hir.TheVariants.{outs-Concat', outs-Alternation'}
use Rattle.regex_hir.proofs.MatchesLemmas.{IsMinLen-no_byte, Matches-IsSpan}
use Rattle.regex_hir.proofs.MeaningLemmas.{meaning-Empty, meaning-Literal, meaning-Bytes, meaning-Chars, meaning-Look, meaning-Repetition, meaning-Capture}
use Rattle.regex_hir.proofs.TextLemmas.{has_bytes_at_from, has_bytes_at_parts, has_bytes_at_fits, char_at_parts}
use Rattle.regex_syntax.specs.WellFormed.{IsWithin, IsWellFormed, AreWellFormed}
use Rattle.nfa_paths.proofs.Common.{len_utf8, IsCharBoundary-after_ascii, IsCharBoundary-from_rest, IsCharBoundary-from_take, IsCharBoundary-start, IsUtf8-drop, IsUtf8-encode, length-encode, len_utf8_bounds, ◌≡◌, ℕ, zero, suc, ◌+◌, ◌-◌, ◌≤◌, ◌<◌, inl, inr, ⊎_elim, Bool, true, false, List, [], ◌∷◌, ◌++◌, map, length, take, drop, refl, sym, ap, ◌∙◌, subst, arith, length-drop, drop-cons, take_at, IsUtf8, IsCharBoundary, ltb-true, true≢false, Option, None, Some, slice_index, encode_utf8, cases_lt, slice_get_past, slice_get_within, get_or_from_slice_get}
use Rattle.nfa_compiler.proofs.BoundarySearchLemmas.{boundary-is, boundary-true}
use Rattle.nfa_compiler.specs.Common.{IsMinLen, Matches, Rounds, one_round, next_round, meaning, node_meaning, cat_all, alt_all, optional, copies, up_to, repeat, Re, empty, literal, byte_in, char_in, cat, alt, group, plus, always_reads, has_bytes_at, is_boundary, Hir, Empty, Literal, Bytes, Chars, Look, Repetition', Capture', Concat', Alternation', Row_of-Hir, end_of-Hir, more_of-Hir, items-the_row-Hir, items_shown-the_row-Hir-0, map-Hir, fold_out-Hir, MatchesCharacters}

module _ (hay : List ℕ) (text : IsUtf8 hay) where
  -- how a boundary of the text is one of std's
  cut : (i : ℕ) → i ≤ length hay → is_boundary hay i ≡ true → IsCharBoundary hay i
  cut i within e = (within, λ less high. grind (arith, boundary-is hay i within e))

  uncut : (i : ℕ) → IsCharBoundary hay i → is_boundary hay i ≡ true
  uncut i c = boundary-true hay i (grind (arith, c.1))

  beyond : (i : ℕ) → length hay ≤ i → is_boundary hay i ≡ true
  unfolding is_boundary
  beyond i past = rw (slice_get_past hay i past) refl

  -- A step between two positions: one from a boundary ends on a boundary, and one from inside a codepoint is empty.
  pub record Keeps (i j : ℕ) : Type 0 where
    pub whole : is_boundary hay i ≡ true → is_boundary hay j ≡ true
    pub split : is_boundary hay i ≡ false → j ≡ i

  stays : (i j : ℕ) → j ≡ i → Keeps i j
  stays i j same = record { whole = λ on. ap (is_boundary hay) same ∙ on; split = λ off. same }

  both : (i l j : ℕ) → Keeps i l → Keeps l j → Keeps i j
  both i l j first second = grind (arith, first.whole, first.split, second.whole, second.split)

  -- a text at i
  past_text : (bs rest : List ℕ) (i : ℕ) → IsUtf8 bs → i + length bs ≤ length hay → drop i hay ≡ bs ++ rest
      → is_boundary hay i ≡ true → is_boundary hay (i + length bs) ≡ true
  past_text bs rest i part fits reads on =
      let at = cut i (omega arith) on in
      let front : take (length bs) (drop i hay) ≡ bs = ap (take (length bs)) reads ∙ take_at bs rest (length bs) refl in
      uncut (i + length bs) (IsCharBoundary-from_rest hay i (length bs) at.0
      (IsCharBoundary-from_take (drop i hay) (length bs) (IsUtf8-drop hay i text at) (omega (arith, length-drop i hay))
      (subst IsUtf8 (sym front) part)))

  -- inside a codepoint only the empty string matches
  no_text : (bs rest : List ℕ) (i : ℕ) → IsUtf8 bs → i < length hay → drop i hay ≡ bs ++ rest
      → is_boundary hay i ≡ false → length bs ≡ 0
  no_text [] rest i part less reads off = refl
  no_text (b ∷ bs) rest i part less reads off =
      let all : slice_index hay i ∷ drop (suc i) hay ≡ b ∷ (bs ++ rest) = sym (drop-cons hay i 0 less) ∙ reads in
      let head : slice_index hay i ≡ b = cc in
      let starts = IsCharBoundary-start (b ∷ bs) part in
      let on =
      uncut i (omega arith, λ inside high. omega (arith, starts.1 (omega arith) (omega (arith, head)), head)) in
      absurd (true≢false (sym on ∙ off))

  reads_text : (bs : List ℕ) (i : ℕ) → IsUtf8 bs → has_bytes_at hay i bs ≡ true → Keeps i (i + length bs)
  reads_text bs i part here = elim (cases_lt i (length hay)) [
    | inl less ↦
        let parts = has_bytes_at_parts hay i bs here in
        record {
          whole = past_text bs _ i part (omega (arith, has_bytes_at_fits hay i bs here)) parts;
          split = λ off. omega (arith, no_text bs _ i part less parts off);
        }
    | inr past ↦ record {
      whole = λ on. beyond (i + length bs) (omega arith);
      split = λ off. absurd (true≢false (sym (beyond i past) ∙ off));
    }
  ]

  -- each match of the pattern is such a step
  abbrev Steps : Re → Type 0
  Steps re = (i j : ℕ) → Matches hay re i j → Keeps i j

  of_byte : (rs : List (ℕ × ℕ)) → IsWithin 0x7F rs → Steps (byte_in rs)
  of_byte rs ascii i j m =
      grind (arith, slice_get_within, get_or_from_slice_get, uncut, IsCharBoundary-after_ascii, boundary-true)

  of_char : (rs : List (ℕ × ℕ)) → Steps (char_in rs)
  of_char rs i j m =
      let char = char_at_parts hay i m.0 m.1 in
      let long : length (encode_utf8 m.0) ≡ len_utf8 m.0 = length-encode m.0 in
      let here : has_bytes_at hay i (encode_utf8 m.0) ≡ true = has_bytes_at_from hay i (encode_utf8 m.0) _ char.1 in
      let next : i + length (encode_utf8 m.0) ≡ j = omega (arith, m.3, long) in
      subst (Keeps i) next (reads_text (encode_utf8 m.0) i (IsUtf8-encode m.0 char.0) here)

  -- the empty class
  of_none : Steps (byte_in [])
  unfolding IsMinLen
  of_none i j m = absurd (omega (arith, IsMinLen-no_byte (j + 1) hay i j m))

  of_empty : Steps empty
  of_empty = stays

  of_cat : (a b : Re) → Steps a → Steps b → Steps (cat a b)
  of_cat a b p q i j m = both i m.0 j (p i m.0 m.1) (q m.0 j m.2)

  of_alt : (a b : Re) → Steps a → Steps b → Steps (alt a b)
  of_alt a b p q i j m = ⊎_elim (p i j) (q i j) m

  of_plus : (greedy : Bool) (a : Re) → Steps a → Steps (plus greedy a)
  of_plus greedy a p i j (one_round _ r) = p i j r
  of_plus greedy a p i j (next_round l _ rs r) = both i l j (of_plus greedy a p i l rs) (p l j r)

  -- repetitions

  of_copies : (n : ℕ) (a b : Re) → Steps a → Steps b → Steps (copies n a b)
  of_copies zero a b p q = q
  of_copies (suc n) a b p q = of_cat a (copies n a b) p (of_copies n a b p q)

  of_optional : (greedy : Bool) (a : Re) → Steps a → Steps (optional greedy a)
  of_optional true a p = of_alt a empty p of_empty
  of_optional false a p = of_alt empty a of_empty p

  of_up_to : (greedy : Bool) (n : ℕ) (a : Re) → Steps a → Steps (up_to greedy n a)
  of_up_to greedy zero a p = of_empty
  of_up_to greedy (suc n) a p =
      of_optional greedy (cat a (up_to greedy n a)) (of_cat a (up_to greedy n a) p (of_up_to greedy n a p))

  of_repeat : (least : ℕ) (most : Option ℕ) (greedy : Bool) (a : Re) → Steps a → Steps (repeat least most greedy a)
  unfolding repeat
  of_repeat zero None greedy a p = of_optional greedy (plus greedy a) (of_plus greedy a p)
  of_repeat (suc n) None greedy a p = of_copies n a (plus greedy a) p (of_plus greedy a p)
  of_repeat least (Some most) greedy a p =
      of_copies least a (up_to greedy (most - least) a) p (of_up_to greedy (most - least) a p)

  -- trees

  mutual
    of_tree : (h : Hir) → IsWellFormed true h → Steps (meaning h)
    of_tree Empty formed = subst Steps (sym meaning-Empty) of_empty
    of_tree (Literal bs) formed = subst Steps (sym (meaning-Literal bs))
        (λ i j m. subst (Keeps i) (sym m.1) (reads_text bs.items i (formed refl) m.0))
    of_tree (Bytes class) formed = subst Steps (sym (meaning-Bytes class)) (of_byte class.ranges.items formed)
    of_tree (Chars class) formed = subst Steps (sym (meaning-Chars class)) (of_char class.ranges.items)
    of_tree (Look l) formed = subst Steps (sym (meaning-Look l)) (λ i j m. stays i j m.1)
    of_tree (Repetition' least most greedy place sub) formed =
        subst Steps
        (sym (meaning-Repetition least most greedy (record { ptr = place.ptr; alloc = place.alloc; value = sub })))
        (of_repeat least most greedy (meaning sub) (of_tree sub formed.1))
    of_tree (Capture' index place sub) formed =
        subst Steps (sym (meaning-Capture index (record { ptr = place.ptr; alloc = place.alloc; value = sub })))
        (of_tree sub formed)
    of_tree (Concat' shape subs) formed =
        subst Steps
        (sym (fold_out-Hir Re node_meaning _
        ∙ ap (λ x. node_meaning (map-Hir Hir Re meaning x)) (outs-Concat' shape subs)
        ∙ ap (λ l. cat_all (map meaning l)) (items_shown-the_row-Hir-0 shape subs)))
        (of_row _ subs formed).0
    of_tree (Alternation' shape subs) formed =
        subst Steps
        (sym (fold_out-Hir Re node_meaning _
        ∙ ap (λ x. node_meaning (map-Hir Hir Re meaning x)) (outs-Alternation' shape subs)
        ∙ ap (λ l. alt_all (map meaning l)) (items_shown-the_row-Hir-0 shape subs)))
        (of_row _ subs formed).1

    of_row : (n : _) (row : Row_of-Hir n) → AreWellFormed true row
        → Steps (cat_all (map meaning (items-the_row-Hir n row)))
        × Steps (alt_all (map meaning (items-the_row-Hir n row)))
    of_row n end_of-Hir formed = (of_empty, of_none)
    of_row n (more_of-Hir sub rest) formed =
        let one = of_tree sub formed.0 in
        let others = of_row _ rest formed.1 in
        let subs = map meaning (items-the_row-Hir _ rest) in
        (of_cat (meaning sub) (cat_all subs) one others.0, of_alt (meaning sub) (alt_all subs) one others.1)

-- a tree that the parser returns under `utf8` matches whole characters
pub tree-matches-characters : (h : Hir) → IsWellFormed true h → MatchesCharacters (meaning h)
tree-matches-characters h formed = record {
  whole = λ hay i j text m. (of_tree hay text h formed i j m).whole;
  split = λ hay i j text m. (of_tree hay text h formed i j m).split;
}

-- a pattern that always reads a byte has no empty match
pub reads-on : (hay : List ℕ) (re : Re) → always_reads re ≡ true → (i j : ℕ) → Matches hay re i j → i < j
reads-on hay (literal bs) reads i j m = omega (arith, m.1, ltb-true 0 (length bs) reads)
reads-on hay (byte_in rs) reads i j m = omega (arith, m.3)
reads-on hay (char_in rs) reads i j m = omega (arith, m.3, len_utf8_bounds m.0)
reads-on hay (cat a b) reads i j m =
    let first = Matches-IsSpan hay a i m.0 m.1 in
    grind (arith, first, Matches-IsSpan hay b m.0 j m.2, reads-on hay a, reads-on hay b)
reads-on hay (alt a b) reads i j m = grind (arith, reads-on hay a, reads-on hay b)
reads-on hay (group n a) reads i j m = reads-on hay a reads i j m
reads-on hay (plus greedy a) reads i j m = of (reads-on hay a reads) i j m
  where
    of : ((i j : ℕ) → Matches hay a i j → i < j) → (i j : ℕ) → Rounds (Matches hay a) i j → i < j
    of each i j (one_round _ r) = each i j r
    of each i j (next_round l _ rs r) = omega (arith, of each i l rs, each l j r)
reads-on hay _ never i j m = absurd (true≢false (sym never))
