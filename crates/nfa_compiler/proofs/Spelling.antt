-- Which texts a pattern without assertions matches, wherever they stand.
use Rattle.nfa_paths.proofs.Common.{◌≡◌, ◌∙◌, ℕ, zero, suc, ◌+◌, ◌≤◌, Bool, true, false, List, [], ◌∷◌, ◌++◌, ◌⊎◌, length, drop, Some, refl, sym, ap, subst, arith, slice_get, append_assoc, length-append, length-drop, drop-drop, inl, inr, ◌↔◌, All, drop_at, drop_more, All-append, All-cons, All-head, All-nil, All-tail, slice_get_within, get_or_from_slice_get}
use Rattle.regex_class.specs.Ranges.{Range, in_ranges}
use Rattle.nfa_compiler.specs.Common.{Matches, Rounds, one_round, next_round, copies, optional, up_to, Re, alt, byte_in, cat, empty, group, literal, plus, first}
use Rattle.regex_hir.proofs.TextLemmas.{has_bytes_at_from, has_bytes_at_parts}
use Rattle.regex_syntax.proofs.ReadingLemmas.{first-drop}
use Rattle.nfa_compiler.specs.Texts.{Bytes, BytesOrMore, Exactly, Times, ◌followed_by◌, ◌or_else◌}

-- the text stands in the haystack from i to j
pub record IsAt (hay : List ℕ) (i j : ℕ) (text : List ℕ) : Type 0 where
  pub rest : drop i hay ≡ text ++ drop j hay
  pub end : j ≡ i + length text

-- The pattern matches exactly the texts that are P, wherever they stand.
pub record Spells (re : Re) (P : List ℕ → Type 0) : Type 0 where
  pub to : (hay : List ℕ) (i j : ℕ) → i ≤ length hay → Matches hay re i j
      → (text : List ℕ) × IsAt hay i j text × P text
  pub from : (hay : List ℕ) (i j : ℕ) (text : List ℕ) → i ≤ length hay → IsAt hay i j text → P text
      → Matches hay re i j

pub within : (hay : List ℕ) (i j : ℕ) (text : List ℕ) → i ≤ length hay → IsAt hay i j text → j ≤ length hay
within hay i j text le at =
    omega (arith, ap length at.rest, length-drop i hay, length-append text (drop j hay), length-drop j hay, at.end)

-- the end of a text that stands at the front
pub at-front : (hay : List ℕ) (i : ℕ) (text rest : List ℕ) → drop i hay ≡ text ++ rest
    → drop (i + length text) hay ≡ rest
at-front hay i text rest e =
    sym (drop-drop (length text) i hay) ∙ ap (drop (length text)) e ∙ drop_at text rest (length text) refl

at-split : (hay : List ℕ) (i j : ℕ) (a b : List ℕ) → IsAt hay i j (a ++ b)
    → IsAt hay i (i + length a) a × IsAt hay (i + length a) j b
at-split hay i j a b at =
    let whole : drop i hay ≡ a ++ (b ++ drop j hay) = at.rest ∙ append_assoc a b (drop j hay) in
    let next = at-front hay i a (b ++ drop j hay) whole in (
      record { rest = whole ∙ ap (λ xs. a ++ xs) (sym next); end = refl },
      record { rest = next; end = omega (arith, at.end, length-append a b) },
    )

at-join : (hay : List ℕ) (i l j : ℕ) (a b : List ℕ) → IsAt hay i l a → IsAt hay l j b → IsAt hay i j (a ++ b)
at-join hay i l j a b left right = record {
  rest = left.rest ∙ ap (λ xs. a ++ xs) right.rest ∙ sym (append_assoc a b (drop j hay));
  end = omega (arith, left.end, right.end, length-append a b);
}

at-none : (hay : List ℕ) (i : ℕ) → IsAt hay i i []
at-none hay i = record { rest = refl; end = omega arith }

-- the same texts in other words
pub spells-iff : {re : Re} {P Q : List ℕ → Type 0} → ((text : List ℕ) → P text ↔ Q text) → Spells re P → Spells re Q
spells-iff same h = record {
  to = λ hay i j le m. let t = h.to hay i j le m in (t.0, t.1, (same t.0).0 t.2);
  from = λ hay i j text le at is. h.from hay i j text le at ((same text).1 is);
}

pub spells-empty : Spells empty (Exactly [])
spells-empty = record {
  to = λ hay i j le m. ([], subst (λ n. IsAt hay i n []) (sym m) (at-none hay i), record { text_is = refl });
  from = λ hay i j text le at is. omega (arith, at.end, ap length is.text_is);
}

pub spells-literal : (bs : List ℕ) → Spells (literal bs) (Exactly bs)
spells-literal bs = record {
  to = λ hay i j le m. (
    bs,
    record {
      rest = subst (λ n. drop i hay ≡ bs ++ drop n hay) (sym m.1) (has_bytes_at_parts hay i bs m.0);
      end = m.1;
    },
    record { text_is = refl },
  );
  from = λ hay i j text le at is. (
    has_bytes_at_from hay i bs (drop j hay) (at.rest ∙ ap (λ xs. xs ++ drop j hay) is.text_is),
    omega (arith, at.end, ap length is.text_is),
  );
}

pub spells-cat : {a b : Re} {P Q : List ℕ → Type 0} → Spells a P → Spells b Q → Spells (cat a b) (P followed_by Q)
spells-cat p q = record {
  to = λ hay i j le m.
      let s = p.to hay i m.0 le m.1 in
      let t = q.to hay m.0 j (within hay i m.0 s.0 le s.1) m.2 in (
        s.0 ++ t.0,
        at-join hay i m.0 j s.0 t.0 s.1 t.1,
        record { first = s.0; second = t.0; text_is = refl; first_is = s.2; second_is = t.2 },
      );
  from = λ hay i j text le at is.
      let both = at-split hay i j is.first is.second (subst (λ xs. IsAt hay i j xs) is.text_is at) in
      let l = i + length is.first in (
        l,
        p.from hay i l is.first le both.0 is.first_is,
        q.from hay l j is.second (within hay i l is.first le both.0) both.1 is.second_is,
      );
}

pub spells-alt : {a b : Re} {P Q : List ℕ → Type 0} → Spells a P → Spells b Q → Spells (alt a b) (P or_else Q)
spells-alt p q = record {
  to = λ hay i j le m. elim m [
    | inl l ↦ let t = p.to hay i j le l in (t.0, t.1, record { either = inl t.2 })
    | inr r ↦ let t = q.to hay i j le r in (t.0, t.1, record { either = inr t.2 })
  ];
  from = λ hay i j text le at is. elim is.either [
    | inl l ↦ inl (p.from hay i j text le at l)
    | inr r ↦ inr (q.from hay i j text le at r)
  ];
}

pub spells-group : (n : ℕ) {a : Re} {P : List ℕ → Type 0} → Spells a P → Spells (group n a) P
spells-group n p = record { to = p.to; from = p.from }

pub spells-times : (n : ℕ) {a : Re} {P : List ℕ → Type 0} → Spells a P → Spells (copies n a empty) (Times n P)
spells-times zero p = spells-empty
spells-times (suc n) p = spells-cat p (spells-times n p)

-- a part that may be left out
pub spells-optional : (greedy : Bool) {a : Re} {P : List ℕ → Type 0} → Spells a P
    → Spells (optional greedy a) (P or_else Exactly [])
spells-optional true p = spells-alt p spells-empty
spells-optional false p =
    spells-iff (λ text. (λ is. record { either = swap is.either }, λ is. record { either = swap is.either }))
    (spells-alt spells-empty p)
  where
    swap : {A B : Type 0} → A ⊎ B → B ⊎ A
    swap (inl a) = inr a
    swap (inr b) = inl b

-- rounds of a loop, with one more before them
cons-round : (R : ℕ → ℕ → Type 0) (i l j : ℕ) → R i l → Rounds R l j → Rounds R i j
cons-round R i l j r (one_round _ s) = next_round l j (one_round l r) s
cons-round R i l j r (next_round k _ rs s) = next_round k j (cons-round R i l k r rs) s

-- Runs of bytes of one class.
module _ (rs : List Range) (test : ℕ → Bool) (same : (b : ℕ) → in_ranges rs b ≡ test b) where
  byte-stands : (hay : List ℕ) (i b : ℕ) → slice_get hay i ≡ Some b → drop i hay ≡ b ∷ drop (i + 1) hay
  byte-stands hay i b there =
      drop_more hay i 0 (slice_get_within hay i b there)
      ∙ ap (λ x. x ∷ drop (i + 1) hay) (get_or_from_slice_get hay i b 0 there)

  stands-byte : (hay : List ℕ) (i b : ℕ) (rest : List ℕ) → drop i hay ≡ b ∷ rest → slice_get hay i ≡ Some b
  unfolding first
  stands-byte hay i b rest e = sym (first-drop hay i) ∙ ap first e

  one-run : (b : ℕ) → test b ≡ true → Bytes test 1 1 (b ∷ [])
  one-run b passes = record {
    at_least = omega arith;
    at_most = omega arith;
    each = All-cons (λ x. test x ≡ true) b [] passes (All-nil (λ x. test x ≡ true));
  }

  no-run : (most : ℕ) → Bytes test 0 most []
  no-run most = record { at_least = omega arith; at_most = omega arith; each = All-nil (λ x. test x ≡ true) }

  pub spells-byte : Spells (byte_in rs) (Bytes test 1 1)
  spells-byte = record {
    to = λ hay i j le m. (
      m.0 ∷ [],
      record { rest = subst (λ n. drop i hay ≡ m.0 ∷ drop n hay) (sym m.3) (byte-stands hay i m.0 m.1); end = m.3 },
      one-run m.0 (sym (same m.0) ∙ m.2),
    );
    from = λ hay i j text le at is. one hay i j text at is;
  }
    where
      one : (hay : List ℕ) (i j : ℕ) (text : List ℕ) → IsAt hay i j text → Bytes test 1 1 text
          → Matches hay (byte_in rs) i j
      one hay i j [] at is = absurd (omega (arith, is.at_least))
      one hay i j (b ∷ []) at is =
          let passes = All-head (λ x. test x ≡ true) b [] is.each in
          (b, stands-byte hay i b (drop j hay) at.rest, same b ∙ passes, at.end)
      one hay i j (b ∷ (c ∷ text)) at is = absurd (omega (arith, is.at_most))

  -- a byte, and then a run
  cons-run : (least most : ℕ) (text : List ℕ)
      → (Bytes test 1 1 followed_by Bytes test least most) text ↔ Bytes test (suc least) (suc most) text
  cons-run least most text = (
    λ is.
        let long = ap length is.text_is ∙ length-append is.first is.second in
        record {
          at_least = omega (arith, long, is.first_is.at_least, is.second_is.at_least);
          at_most = omega (arith, long, is.first_is.at_most, is.second_is.at_most);
          each = subst (All (λ x. test x ≡ true)) (sym is.text_is)
              (All-append (λ x. test x ≡ true) is.first is.second is.first_is.each is.second_is.each);
        },
    λ is. back text is,
  )
    where
      back : (xs : List ℕ) → Bytes test (suc least) (suc most) xs
          → (Bytes test 1 1 followed_by Bytes test least most) xs
      back [] is = absurd (omega (arith, is.at_least))
      back (b ∷ xs) is = record {
        first = b ∷ [];
        second = xs;
        text_is = refl;
        first_is = one-run b (All-head (λ x. test x ≡ true) b xs is.each);
        second_is = record {
          at_least = omega (arith, is.at_least);
          at_most = omega (arith, is.at_most);
          each = All-tail (λ x. test x ≡ true) b xs is.each;
        };
      }

  empty-run : Spells empty (Bytes test 0 0)
  empty-run = spells-iff (λ text. (λ is. of text is.text_is, λ is. none text is)) spells-empty
    where
      of : (text : List ℕ) → text ≡ [] → Bytes test 0 0 text
      of text e = subst (λ xs. Bytes test 0 0 xs) (sym e) (no-run 0)

      none : (text : List ℕ) → Bytes test 0 0 text → Exactly [] text
      none [] is = record { text_is = refl }
      none (b ∷ text) is = absurd (omega (arith, is.at_most))

  -- one more at most, or one less at least
  optional-run : (n : ℕ) (text : List ℕ) → (Bytes test 1 (suc n) or_else Exactly []) text ↔ Bytes test 0 (suc n) text
  optional-run n text = (
    λ is. elim is.either [
      | inl run ↦ record { at_least = omega arith; at_most = run.at_most; each = run.each }
      | inr none ↦ subst (λ xs. Bytes test 0 (suc n) xs) (sym none.text_is) (no-run (suc n))
    ],
    λ is. back text is,
  )
    where
      back : (xs : List ℕ) → Bytes test 0 (suc n) xs → (Bytes test 1 (suc n) or_else Exactly []) xs
      back [] is = record { either = inr (record { text_is = refl }) }
      back (b ∷ xs) is =
          record { either = inl (record { at_least = omega arith; at_most = is.at_most; each = is.each }) }

  spells-up_to : (greedy : Bool) (n : ℕ) → Spells (up_to greedy n (byte_in rs)) (Bytes test 0 n)
  spells-up_to greedy zero = empty-run
  spells-up_to greedy (suc n) =
      spells-iff (optional-run n) (spells-optional greedy (spells-iff (cons-run 0 n)
      (spells-cat spells-byte (spells-up_to greedy n))))

  -- `[0-9]{2,5}`: so many bytes at least, and some more
  pub spells-run : (greedy : Bool) (least more : ℕ)
      → Spells (copies least (byte_in rs) (up_to greedy more (byte_in rs))) (Bytes test least (least + more))
  spells-run greedy zero more =
      let e : more ≡ 0 + more = omega arith in
      subst (λ n. Spells (up_to greedy more (byte_in rs)) (Bytes test 0 n)) e (spells-up_to greedy more)
  spells-run greedy (suc least) more =
      let e : suc (least + more) ≡ suc least + more = omega arith in
      subst (λ n. Spells (copies (suc least) (byte_in rs) (up_to greedy more (byte_in rs))) (Bytes test (suc least) n))
      e (spells-iff (cons-run least (least + more)) (spells-cat spells-byte (spells-run greedy least more)))

  -- `[0-9]+`

  rounds-to : (hay : List ℕ) (i j : ℕ) → i ≤ length hay → Rounds (Matches hay (byte_in rs)) i j
      → (text : List ℕ) × IsAt hay i j text × BytesOrMore test 1 text
  rounds-to hay i j le (one_round _ m) =
      let b = spells-byte.to hay i j le m in (b.0, b.1, record { at_least = b.2.at_least; each = b.2.each })
  rounds-to hay i j le (next_round l _ rounds m) =
      let before = rounds-to hay i l le rounds in
      let b = spells-byte.to hay l j (within hay i l before.0 le before.1) m in (
        before.0 ++ b.0,
        at-join hay i l j before.0 b.0 before.1 b.1,
        record {
          at_least = omega (arith, before.2.at_least, length-append before.0 b.0);
          each = All-append (λ x. test x ≡ true) before.0 b.0 before.2.each b.2.each;
        },
      )

  rounds-from : (hay : List ℕ) (i j b : ℕ) (text : List ℕ) → i ≤ length hay → IsAt hay i j (b ∷ text)
      → All (λ x. test x ≡ true) (b ∷ text) → Rounds (Matches hay (byte_in rs)) i j
  rounds-from hay i j b [] le at each =
      one_round j (spells-byte.from hay i j (b ∷ []) le at (one-run b (All-head (λ x. test x ≡ true) b [] each)))
  rounds-from hay i j b (c ∷ text) le at each =
      let split = at-split hay i j (b ∷ []) (c ∷ text) at in
      cons-round (Matches hay (byte_in rs)) i (i + 1) j
      (spells-byte.from hay i (i + 1) (b ∷ []) le split.0
      (one-run b (All-head (λ x. test x ≡ true) b (c ∷ text) each)))
      (rounds-from hay (i + 1) j c text (within hay i (i + 1) (b ∷ []) le split.0) split.1
      (All-tail (λ x. test x ≡ true) b (c ∷ text) each))

  pub spells-plus : (greedy : Bool) → Spells (plus greedy (byte_in rs)) (BytesOrMore test 1)
  spells-plus greedy = record { to = rounds-to; from = some }
    where
      some : (hay : List ℕ) (i j : ℕ) (text : List ℕ) → i ≤ length hay → IsAt hay i j text → BytesOrMore test 1 text
          → Rounds (Matches hay (byte_in rs)) i j
      some hay i j [] le at is = absurd (omega (arith, is.at_least))
      some hay i j (b ∷ text) le at is = rounds-from hay i j b text le at is.each

  -- `[0-9]*`
  pub spells-star : (greedy : Bool) → Spells (optional greedy (plus greedy (byte_in rs))) (BytesOrMore test 0)
  spells-star greedy = spells-iff any (spells-optional greedy (spells-plus greedy))
    where
      back : (xs : List ℕ) → BytesOrMore test 0 xs → (BytesOrMore test 1 or_else Exactly []) xs
      back [] is = record { either = inr (record { text_is = refl }) }
      back (b ∷ xs) is = record { either = inl (record { at_least = omega arith; each = is.each }) }

      any : (text : List ℕ) → (BytesOrMore test 1 or_else Exactly []) text ↔ BytesOrMore test 0 text
      any text = (
        λ is. elim is.either [
          | inl run ↦ record { at_least = omega arith; each = run.each }
          | inr none ↦ subst (λ xs. BytesOrMore test 0 xs) (sym none.text_is)
              (record { at_least = omega arith; each = All-nil (λ x. test x ≡ true) })
        ],
        λ is. back text is,
      )
