-- For callers whose pattern is written out: what the grammar reads in it, part by part, and which texts that matches.
use Rattle.regex_class.specs.Ranges.{Range, in_ranges}
use Rattle.regex_syntax.proofs.SetLemmas.{in_ranges-members}
use Rattle.regex_syntax.proofs.TreeLaws.{◌then◌, alt-fail, alt_cong, byte_in_ascii, cat-empty, cat_cong, same_refl, same_sym}
use Rattle.regex_syntax.proofs.Written.{same_group, same_plus}
use Rattle.nfa_paths.proofs.Common.{is_ascii_digit, is_in_range, ◌≡◌, ◌∙◌, ℕ, zero, suc, ◌+◌, ◌<◌, ◌≤◌, Bool, true, List, [], ◌∷◌, ◌++◌, ◌==◌, map, length, drop, Option, None, Some, refl, sym, ap, subst, arith, append-nil, length-drop, inl, inr, ◌↔◌, All, IsSomeAnd, chars, is_some, option_and_then, list_any, cases_lt, true≢false, nat_tests, drop_all, slice_get-get_or, slice_get_past}
use Rattle.nfa_compiler.specs.WrittenPatterns.{first_match, has_match}
use Rattle.nfa_compiler.specs.Texts.{Bytes, BytesOrMore, Exactly, Times, ◌followed_by◌, ◌or_else◌}
pub use Rattle.nfa_compiler.proofs.CallLemmas.{bytes-of}
unfoldable pub use Rattle.nfa_compiler.proofs.Literals.{on_literals}
use Rattle.nfa_compiler.proofs.UnboundLemmas.{holds-at-start}
use Rattle.nfa_compiler.specs.Common.{find, holds, holds_between, Matches, copies, up_to, Re, alt, byte_in, cat, char_in, empty, group, literal, look, plus, byte_before, Start, End, Nested, Names, read, SameTree, Set, members, Config, MatchesIn, byte_syntax}
use Rattle.nfa_compiler.proofs.ReadLemmas.{find-same, finds-iff}
use Rattle.nfa_compiler.proofs.Spelling.{IsAt, Spells, spells-alt, spells-byte, spells-cat, spells-group, spells-iff, spells-literal, spells-optional, spells-plus, spells-run, spells-star, spells-times, at-front, within}

-- The grammar reads a part of a pattern as `a`. The part matches exactly the texts that are P.
pub record Denotes (a : Re) (P : List ℕ → Type 0) : Type 0 where
  pub re : Re
  pub same : SameTree a re
  pub spells : Spells re P

-- The same of one byte that passes the test.
pub record IsClass (a : Re) (test : ℕ → Bool) : Type 0 where
  pub ranges : List Range
  pub same : SameTree a (byte_in ranges)
  pub tests : (b : ℕ) → in_ranges ranges b ≡ test b

-- a member of a class in brackets: a range of characters with both its ends, or one character
pub data Member : Type 0 where
  range : ℕ → ℕ → Member
  single : ℕ → Member

abbrev pub is_in : Member → Set
is_in (range low high) = is_in_range low high
is_in (single c) = λ d. d == c

abbrev pub set_of : List Member → Set
set_of ms = λ c. list_any (λ set. set c) (map is_in ms)

-- what the grammar reads in a class with these members, such as `[0-9_]`
abbrev pub class_of : List Member → Re
class_of ms = char_in (members (set_of ms))

-- The members of a class are those characters that pass the test, and are ASCII.
module _ (ms : List Member) (test : ℕ → Bool) (is : (c : ℕ) → set_of ms c ≡ test c)
    (low : (c : ℕ) → test c ≡ true → c ≤ 127) where
  tested : (c : ℕ) → in_ranges (members (set_of ms)) c ≡ test c
  tested c = in_ranges-members (set_of ms) c ∙ rw (is c) (grind (arith, nat_tests, low c))

  pub class : IsClass (class_of ms) test
  class = record {
    ranges = members (set_of ms);
    same = same_sym (byte_in_ascii (members (set_of ms)) (λ c h. low c (sym (tested c) ∙ h)));
    tests = tested;
  }

-- `[0-9]`
pub digit : IsClass (class_of (range 48 57 ∷ [])) is_ascii_digit
digit = class (range 48 57 ∷ []) is_ascii_digit (λ c. grind (arith, nat_tests)) (λ c h. grind (arith, nat_tests))

-- parts of a pattern

-- `-`
pub text : {bytes : List ℕ} → Denotes (literal bytes) (Exactly bytes)
text {bytes} = record { re = literal bytes; same = same_refl _; spells = spells-literal bytes }

-- `[0-9]`
pub one : {a : Re} {test : ℕ → Bool} → IsClass a test → Denotes a (Bytes test 1 1)
one {a} {test} k = record { re = byte_in k.ranges; same = k.same; spells = spells-byte k.ranges test k.tests }

same-copies : (n : ℕ) {a b rest other : Re} → SameTree a b → SameTree rest other
    → SameTree (copies n a rest) (copies n b other)
same-copies zero same rest = rest
same-copies (suc n) same rest = cat_cong same (same-copies n same rest)

same-up_to : (n : ℕ) {a b : Re} → SameTree a b → SameTree (up_to true n a) (up_to true n b)
same-up_to zero same = same_refl empty
same-up_to (suc n) same = alt_cong (cat_cong same (same-up_to n same)) (same_refl empty)

-- `[0-9]{2,5}`: `least` bytes and up to `more`
pub run : (least more : ℕ) {a : Re} {test : ℕ → Bool} → IsClass a test
    → Denotes (copies least a (up_to true more a)) (Bytes test least (least + more))
run least more {a} {test} k = record {
  re = copies least (byte_in k.ranges) (up_to true more (byte_in k.ranges));
  same = same-copies least k.same (same-up_to more k.same);
  spells = spells-run k.ranges test k.tests true least more;
}

-- `[0-9]+`
pub some : {a : Re} {test : ℕ → Bool} → IsClass a test → Denotes (plus true a) (BytesOrMore test 1)
some {a} {test} k = record {
  re = plus true (byte_in k.ranges);
  same = same_plus true k.same;
  spells = spells-plus k.ranges test k.tests true;
}

-- `[0-9]*`
pub any : {a : Re} {test : ℕ → Bool} → IsClass a test → Denotes (alt (plus true a) empty) (BytesOrMore test 0)
any {a} {test} k = record {
  re = alt (plus true (byte_in k.ranges)) empty;
  same = alt_cong (same_plus true k.same) (same_refl empty);
  spells = spells-star k.ranges test k.tests true;
}

-- `(..)?`
pub maybe : {a : Re} {P : List ℕ → Type 0} → Denotes a P → Denotes (alt (cat a empty) empty) (P or_else Exactly [])
maybe p = record {
  re = alt p.re empty;
  same = alt_cong (cat-empty _ then p.same) (same_refl empty);
  spells = spells-optional true p.spells;
}

-- `(..){3}`
pub times : (n : ℕ) {a : Re} {P : List ℕ → Type 0} → Denotes a P → Denotes (copies n a empty) (Times n P)
times n p = record {
  re = copies n p.re empty;
  same = same-copies n p.same (same_refl empty);
  spells = spells-times n p.spells;
}

-- `(..)`
pub group_of : {n : ℕ} {a : Re} {P : List ℕ → Type 0} → Denotes a P → Denotes (group n a) P
group_of {n} p = record { re = group n p.re; same = same_group n p.same; spells = spells-group n p.spells }

-- one part and then the others of its branch
infixr 30 ◌and_then◌
pub ◌and_then◌ : {a b : Re} {P Q : List ℕ → Type 0} → Denotes a P → Denotes b Q → Denotes (cat a b) (P followed_by Q)
◌and_then◌ p q =
    record { re = cat p.re q.re; same = cat_cong p.same q.same; spells = spells-cat p.spells q.spells }

-- the last part of its branch
pub last : {a : Re} {P : List ℕ → Type 0} → Denotes a P → Denotes (cat a empty) P
last p = record { re = p.re; same = cat-empty _ then p.same; spells = p.spells }

-- one branch, and then the others
infixr 20 ◌or◌
pub ◌or◌ : {a b : Re} {P Q : List ℕ → Type 0} → Denotes a P → Denotes b Q → Denotes (alt a b) (P or_else Q)
◌or◌ p q = record { re = alt p.re q.re; same = alt_cong p.same q.same; spells = spells-alt p.spells q.spells }

-- the last branch
pub branch : {a : Re} {P : List ℕ → Type 0} → Denotes a P → Denotes (alt a (byte_in [])) P
branch p = record { re = p.re; same = alt-fail _ then p.same; spells = p.spells }

-- the same in other words
pub in_words : {a : Re} {P Q : List ℕ → Type 0} → ((t : List ℕ) → P t ↔ Q t) → Denotes a P → Denotes a Q
in_words same p = record { re = p.re; same = p.same; spells = spells-iff same p.spells }

-- where the haystack begins and ends

start_holds : (hay : List ℕ) → holds Start hay 0 ≡ true
unfolding holds holds_between byte_before
start_holds hay = refl

holds_end : (hay : List ℕ) (i : ℕ) → holds End hay i ≡ true → length hay ≤ i
unfolding holds holds_between
holds_end hay i h = elim (cases_lt i (length hay)) [
  | inl inside ↦ absurd (true≢false (sym h ∙ rw (slice_get-get_or hay i 0 inside) refl))
  | inr past ↦ past
]

end_holds : (hay : List ℕ) → holds End hay (length hay) ≡ true
unfolding holds holds_between
end_holds hay = rw (slice_get_past hay (length hay) (omega arith)) refl

-- The grammar reads the parts up to the end of the pattern, `\z`, as `a`. They match from a position exactly if the
-- rest of the haystack is P.
pub record Ends (a : Re) (P : List ℕ → Type 0) : Type 0 where
  pub re : Re
  pub same : SameTree a re
  pub to : (hay : List ℕ) (i j : ℕ) → i ≤ length hay → Matches hay re i j → P (drop i hay)
  pub from : (hay : List ℕ) (i : ℕ) → i ≤ length hay → P (drop i hay) → Matches hay re i (length hay)

-- the last part before the end
pub end : {a : Re} {P : List ℕ → Type 0} → Denotes a P → Ends (cat a (cat (look End) empty)) P
end {a} {P} p = record {
  re = cat p.re (look End);
  same = cat_cong p.same (cat-empty _);
  to = λ hay i j le m.
      let t = p.spells.to hay i m.0 le m.1 in
      let none : drop m.0 hay ≡ [] = drop_all m.0 hay (holds_end hay m.0 m.2.0) in
      subst P (sym (t.1.rest ∙ ap (λ xs. t.0 ++ xs) none ∙ append-nil t.0)) t.2;
  from = λ hay i le is. (
    length hay,
    p.spells.from hay i (length hay) (drop i hay) le (record {
      rest = sym (ap (λ xs. drop i hay ++ xs) (drop_all (length hay) hay (omega arith)) ∙ append-nil (drop i hay));
      end = omega (arith, length-drop i hay);
    }) is,
    (end_holds hay, refl),
  );
}

-- one part and then the others up to the end
infixr 30 ◌before◌
pub ◌before◌ : {a b : Re} {P Q : List ℕ → Type 0} → Denotes a P → Ends b Q → Ends (cat a b) (P followed_by Q)
◌before◌ {a} {b} {P} {Q} p q = record {
  re = cat p.re q.re;
  same = cat_cong p.same q.same;
  to = λ hay i j le m.
      let t = p.spells.to hay i m.0 le m.1 in
      record {
        first = t.0;
        second = drop m.0 hay;
        text_is = t.1.rest;
        first_is = t.2;
        second_is = q.to hay m.0 j (within hay i m.0 t.0 le t.1) m.2;
      };
  from = λ hay i le is.
      let l = i + length is.first in
      let next : drop l hay ≡ is.second = at-front hay i is.first is.second is.text_is in
      let at : IsAt hay i l is.first =
      record { rest = is.text_is ∙ ap (λ xs. is.first ++ xs) (sym next); end = refl } in (
        l,
        p.spells.from hay i l is.first le at is.first_is,
        q.from hay l (within hay i l is.first le at) (subst Q (sym next) is.second_is),
      );
}

-- whole patterns

-- The grammar reads a pattern as `a`. It matches a haystack exactly if the whole of it is P.
pub record Whole (a : Re) (P : List ℕ → Type 0) : Type 0 where
  pub re : Re
  pub same : SameTree a re
  pub means : (hay : List ℕ) → MatchesIn hay re ↔ P hay

-- `\A..\z`
pub whole : {a : Re} {P : List ℕ → Type 0} → Ends a P → Whole (alt (cat (look Start) a) (byte_in [])) P
whole {a} {P} e = record {
  re = cat (look Start) e.re;
  same = alt-fail _ then cat_cong (same_refl _) e.same;
  means = λ hay. (
    λ m.
        let p = m.matches in
        let start : p.0 ≡ 0 = p.1.1 ∙ holds-at-start hay m.start m.within p.1.0 in
        subst (λ n. P (drop n hay)) start (e.to hay p.0 m.end (omega (arith, start)) p.2),
    λ is. record {
      start = 0;
      end = length hay;
      within = omega arith;
      matches = (0, (start_holds hay, refl), e.from hay 0 (omega arith) is);
    },
  );
}

-- What the grammar reads in the pattern matches a haystack exactly if the whole of it is P.
abbrev pub IsWhole : Config → List ℕ → (List ℕ → Type 0) → Type 0
IsWhole syntax pattern P = IsSomeAnd (read syntax (chars pattern)) (λ (found, names). Whole found.value P)

-- So a search finds something exactly if the whole text is P.
pub whole-text : (pattern : List ℕ) (P : List ℕ → Type 0) → IsWhole byte_syntax pattern P → (text : List ℕ)
    → All (λ x. x < 256) text → (has_match pattern text ≡ true) ↔ P text
unfolding first_match
whole-text pattern P is text bytes = of (read byte_syntax (chars pattern)) is
  where
    of : (o : Option (Nested Re × Names)) → IsSomeAnd o (λ (value, names). Whole value.value P)
        → (is_some (option_and_then (λ (found, names). find found.value text 0) o) ≡ true) ↔ P text
    of None w = absurd w
    of (Some v) w =
        let same = find-same v.0.value w.re w.same text bytes in
        let finds = finds-iff w.re text in
        let m = w.means text in
        (λ e. m.0 (finds.0 (sym (ap is_some same) ∙ e)), λ p. ap is_some same ∙ finds.1 (m.1 p))

-- The same of the answer of a search by a pattern that is known to be this one.
pub found-whole : (pattern : List ℕ) (P : List ℕ → Type 0) → IsWhole byte_syntax pattern P → (own text : List ℕ)
    (found : Bool) → own ≡ pattern → found ≡ has_match own text → All (λ x. x < 256) text → (found ≡ true) ↔ P text
found-whole pattern P is own text found same finds bytes =
    subst (λ b. (b ≡ true) ↔ P text) (sym (finds ∙ ap (λ p. has_match p text) same))
    (whole-text pattern P is text bytes)
