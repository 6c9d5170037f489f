-- A pattern that begins with `Start` matches only from the start of a haystack, so a search for such patterns that is
-- bound to its start loses no hit.
use Rattle.regex_hir.specs.declared.look.Look.{Look}
use Rattle.regex_hir.proofs.AttemptLemmas.{attempt_complete}
use Rattle.regex_hir.proofs.OptionLemmas.{option_or_none, value_of_IsSome}
use Rattle.regex_class.specs.Ranges.{in_ranges}
use Rattle.nfa_paths.proofs.AnswerLemmas.{scan_answer-leads}
use Rattle.nfa_paths.proofs.PatternLemmas.{some-pattern}
use Rattle.nfa_paths.proofs.Common.{and-false, and-true, and_self, or-false, or_self, ◌≡◌, ℕ, zero, suc, ◌+◌, ◌-◌, ◌≤◌, ◌<◌, inl, inr, Bool, true, false, List, [], ◌∷◌, length, refl, sym, ap, ◌∙◌, subst, arith, true≢false, Option, None, slice_index_or, if◌then◌else◌, ◌||◌, ◌==◌, option_or, cases_lt, le-ltb, nat_tests, slice_get-get_or, Search, is_anchored, Automaton, IsScanAnswer, node_at, Yes, LeftmostFirst, drop, get_or, drop-cons, Some}
use Rattle.nfa_compiler.proofs.EachLemmas.{both-elim, in-each-mode}
use Rattle.nfa_compiler.proofs.ExistsLemmas.{earlier-match, path-sound, unbound-match}
use Rattle.nfa_compiler.proofs.MeantLemmas.{Alike, all-meant, pick-alike}
use Rattle.nfa_compiler.proofs.SearchLemmas.{scan}
use Rattle.nfa_compiler.proofs.StartLemmas.{TellsHit, ToldHit}
use Rattle.nfa_compiler.proofs.WayLemmas.{within-end}
use Rattle.nfa_compiler.specs.declared.loops.Form.{Form}
use Rattle.nfa_compiler.specs.Common.{holds, holds_between, Matches, Rounds, next_round, one_round, Re, accept, alt, attempt, byte_in, cat, char_in, empty, group, literal, look, plus, byte_before, Start, expected_on_boundary, on_boundary, restarted_hit, IsNfaOf, res_of, PatternMatches, all_begin_at_start, begins_at_start, is_start, never_reads, PatternHit, expected, first_hit, hit_of, pick, pick_one, at_boundary, expected_in_str, FindsFromAnyStart, LosesNoHit, MatchesOnlyAtStart, copies, optional, repeat, up_to, always_reads, form_of, form_repeated, form_then}
use Rattle.nfa_compiler.specs.Laws.{BegunMatchAtStart, MatchesAreUnbound, TextsLoseNoHit}

-- a pattern without a part that reads ends where it starts

still-rounds : (R : ℕ → ℕ → Type 0) → ((i j : ℕ) → R i j → j ≡ i) → (i j : ℕ) → Rounds R i j → j ≡ i
still-rounds R each i j (one_round _ r) = each i j r
still-rounds R each i j (next_round l _ rs r) = each l j r ∙ still-rounds R each i l rs

still : (hay : List ℕ) (re : Re) (i j : ℕ) → never_reads re ≡ true → Matches hay re i j → j ≡ i
still hay empty i j e m = m
still hay (literal []) i j e m = omega (arith, m.1)
still hay (literal (b ∷ bs)) i j e m = grind (arith, nat_tests)
still hay (look l) i j e m = m.1
still hay (cat a b) i j e m = grind (arith, still hay a i m.0, still hay b m.0 j)
still hay (alt a b) i j e m = grind (arith, still hay a i j, still hay b i j)
still hay (group n a) i j e m = still hay a i j e m
still hay (plus greedy a) i j e m = still-rounds (Matches hay a) (λ l k. still hay a l k e) i j m
still hay _ i j e m = absurd (true≢false (sym e))

-- `Start` holds only at the start

pub holds-at-start : (hay : List ℕ) (i : ℕ) → i ≤ length hay → holds Start hay i ≡ true → i ≡ 0
unfolding holds holds_between byte_before
holds-at-start hay i within h = grind (arith, nat_tests, slice_get-get_or hay (i - 1) 0)

look-is : (l : Look) (hay : List ℕ) (i : ℕ) → is_start l ≡ true → i ≤ length hay → holds l hay i ≡ true → i ≡ 0
look-is Start hay i e within h = holds-at-start hay i within h
look-is _ hay i e within h = absurd (cc)

begun-rounds : (hay : List ℕ) (R : ℕ → ℕ → Type 0) → ((i j : ℕ) → i ≤ length hay → R i j → i ≡ 0) → (i j : ℕ)
    → i ≤ length hay → Rounds R i j → i ≡ 0
begun-rounds hay R each i j within (one_round _ r) = each i j within r
begun-rounds hay R each i j within (next_round l _ rs r) = begun-rounds hay R each i l within rs

pub begun-at : BegunMatchAtStart
unfolding in_ranges
begun-at hay (byte_in []) i j e within m = absurd (true≢false (sym m.2))
begun-at hay (byte_in (r ∷ rs)) i j e within m = grind (arith, nat_tests)
begun-at hay (char_in []) i j e within m = absurd (true≢false (sym m.2))
begun-at hay (char_in (r ∷ rs)) i j e within m = grind (arith, nat_tests)
begun-at hay (look l) i j e within m = look-is l hay i e within m.0
begun-at hay (cat a b) i j e within m =
    grind (arith, begun-at hay a i m.0, still hay a i m.0, begun-at hay b m.0 j)
begun-at hay (alt a b) i j e within m = grind (arith, begun-at hay a i j, begun-at hay b i j)
begun-at hay (group n a) i j e within m = begun-at hay a i j e within m
begun-at hay (plus greedy a) i j e within m =
    begun-rounds hay (Matches hay a) (λ l k. begun-at hay a l k e) i j within m
begun-at hay _ i j e within m = absurd (true≢false (sym e))

one-begins : (res : List Re) (k : ℕ) → k < length res → all_begin_at_start res ≡ true
    → begins_at_start (slice_index_or res k empty) ≡ true
one-begins [] k known e = absurd (omega arith)
one-begins (re ∷ res) zero known e = grind arith
one-begins (re ∷ res) (suc k) known e = grind (arith, one-begins res k)

module _ (res : List Re) (a : Automaton) (made : IsNfaOf res a) where
  -- an NFA of such patterns matches only from the start
  pub only-at-start : all_begin_at_start res ≡ true → MatchesOnlyAtStart a
  only-at-start all = record {
    nothing = λ x after whole. record {
      no_path = λ m p path wanted.
          let some = some-pattern (node_at a m.0) wanted in
          let found = path-sound res a made x whole some.0 m p path wanted some.1 in
          let within = within-end a x found.start found.inside found.to in
          let at = begun-at x.haystack (slice_index_or res some.0 empty) found.start found.end
          (one-begins res some.0 found.known all) (omega (arith, within, whole)) found.matches in
          omega (arith, at, found.from, after);
    };
  }

  abbrev anchored-at : List ℕ → ℕ → Search
  anchored-at haystack i =
      record { haystack = haystack; start = i; end = length haystack; anchored = Yes; earliest = false }

  -- after the start there is no hit
  none-later : MatchesOnlyAtStart a → (haystack : List ℕ) (i : ℕ) → 0 < i → i ≤ length haystack
      → pick haystack res 0 i ≡ None
  unfolding expected
  none-later only haystack i after within =
      let x = anchored-at haystack i in
      let s = scan res a made x refl in
      both-elim (ToldHit a) (λ o r. IsScanAnswer a x LeftmostFirst false r → o ≡ None) (λ answer. refl)
      (λ h p told answer.
      let leads = scan_answer-leads a x LeftmostFirst false p answer in
      absurd ((only.nothing x after refl).no_path leads.end p leads.path leads.matches))
      (pick haystack res 0 i) s.0
      (subst (λ (b : Bool). TellsHit a (if b then None else pick haystack res 0 i) s.0)
      (le-ltb (length haystack) i within) s.1)
      s.2

  pub loses-none : FindsFromAnyStart a → (haystack : List ℕ) → LosesNoHit res a haystack
  loses-none free haystack = grind (arith, nat_tests, none-later)

pub texts-lose-none : TextsLoseNoHit
texts-lose-none syntax texts res nfa haystack compiled meant free bytes =
    elim (loses-none (res_of compiled.trees) nfa compiled.made free haystack) [
      | inl f ↦ inl f
      | inr none ↦ inr (λ i after within.
          both-elim Alike (λ o u. o ≡ None → u ≡ None) (λ e. refl) (λ h g alike never. cc)
          (pick haystack (res_of compiled.trees) 0 i) (pick haystack res 0 i)
          (pick-alike haystack bytes (res_of compiled.trees) res 0 i
          (all-meant syntax texts compiled.trees res compiled.read meant)) (none i after within))
    ]

-- a search that is bound to its start then has the hits of one that is not

module _ (at : ℕ → Option PatternHit) where
  first-nothing : (n i : ℕ) → ((l : ℕ) → i ≤ l → l < i + n → at l ≡ None) → first_hit at n i ≡ None
  first-nothing zero i none = refl
  first-nothing (suc n) i none =
      rw (none i (omega arith) (omega arith))
      (first-nothing n (i + 1) (λ l from to. none l (omega arith) (omega arith)))

  first-only : (n i : ℕ) → ((l : ℕ) → i < l → l < i + suc n → at l ≡ None)
      → first_hit at 1 i ≡ first_hit at (suc n) i
  first-only n i none =
      sym (ap (option_or (at i)) (first-nothing n (i + 1) (λ l from to. none l (omega arith) (omega arith))))

module _ (haystack : List ℕ) (at : ℕ → Option PatternHit) where
  restarted-nothing : (n i : ℕ) → ((l : ℕ) → i ≤ l → l < i + n → at l ≡ None)
      → restarted_hit haystack at n i ≡ None
  restarted-nothing zero i none = refl
  restarted-nothing (suc n) i none = rw (none i (omega arith) (omega arith)) refl

  kept-nothing : (n i : ℕ) → ((l : ℕ) → i ≤ l → l < i + n → at l ≡ None)
      → first_hit (λ l. on_boundary haystack (at l)) n i ≡ None
  kept-nothing n i none =
      first-nothing (λ l. on_boundary haystack (at l)) n i (λ l from to. rw (none l from to) refl)

  restarted-only : (n i : ℕ) → ((l : ℕ) → i < l → l < i + suc n → at l ≡ None)
      → restarted_hit haystack at (suc n) i ≡ first_hit (λ l. on_boundary haystack (at l)) (suc n) i
  restarted-only n i none =
      let later : (l : ℕ) → i + 1 ≤ l → l < i + 1 + n → at l ≡ None = λ l from to. none l (omega arith) (omega arith) in
      grind (arith, restarted-nothing n (i + 1) later, kept-nothing n (i + 1) later)

module _ (res : List Re) (x : Search) (none : (l : ℕ) → 0 < l → l ≤ x.end → pick x.haystack res 0 l ≡ None) where
  abbrev at_place : ℕ → Option PatternHit
  at_place = pick x.haystack res 0

  -- the positions after the first
  later : x.start ≤ x.end → (l : ℕ) → x.start < l → l < x.start + suc (x.end - x.start) → at_place l ≡ None
  later inside l from to = none l (omega arith) (omega arith)

  count : x.end - x.start + 1 ≡ suc (x.end - x.start)
  count = omega arith

  hit-free : expected res true x ≡ expected res false x
  unfolding expected
  hit-free = in-each-mode x (λ o u. o ≡ u) refl {one = λ k. pick_one x.haystack res k x.start}
      (λ inside free. rw count (first-only at_place (x.end - x.start) x.start (later inside)))
      (λ inside. refl) (λ inside k. refl)

  boundary-free : expected_on_boundary res true x ≡ expected_on_boundary res false x
  unfolding expected_on_boundary
  boundary-free = in-each-mode x (λ o u. o ≡ u) refl
      {one = λ k. on_boundary x.haystack (pick_one x.haystack res k x.start)}
      (λ inside free. rw count (restarted-only x.haystack at_place (x.end - x.start) x.start (later inside)))
      (λ inside. refl) (λ inside k. refl)

  str-free : expected_in_str res true x ≡ expected_in_str res false x
  unfolding expected_in_str
  str-free = in-each-mode x (λ o u. o ≡ u) refl
      {one = λ k. at_boundary x.haystack (pick_one x.haystack res k) x.start}
      (λ inside free. rw count (first-only (at_boundary x.haystack at_place) (x.end - x.start) x.start
      (λ l from to. grind (arith, later inside l from to))))
      (λ inside. refl) (λ inside k. refl)

-- An NFA that loses no hit finds the same.
module _ (res : List Re) (nfa : Automaton) (x : Search) (whole : x.end ≡ length x.haystack)
    (kept : LosesNoHit res nfa x.haystack) where
  -- what does not depend on whether a search is bound, if there is no later hit
  unbound : (f : Bool → Option PatternHit)
      → (((l : ℕ) → 0 < l → l ≤ x.end → pick x.haystack res 0 l ≡ None) → f true ≡ f false)
      → f (nfa.anchored == nfa.unanchored) ≡ f false
  unbound f same = grind (arith, nat_tests)

  pub hit-unbound : expected res (nfa.anchored == nfa.unanchored) x ≡ expected res false x
  hit-unbound = unbound (λ b. expected res b x) (hit-free res x)

  pub boundary-unbound : expected_on_boundary res (nfa.anchored == nfa.unanchored) x
      ≡ expected_on_boundary res false x
  boundary-unbound = unbound (λ b. expected_on_boundary res b x) (boundary-free res x)

  pub str-unbound : expected_in_str res (nfa.anchored == nfa.unanchored) x ≡ expected_in_str res false x
  str-unbound = unbound (λ b. expected_in_str res b x) (str-free res x)

-- where a pattern matches

pick-misses : (hay : List ℕ) (res : List Re) (from i k j : ℕ) → pick hay res from i ≡ None → k < length res
    → Matches hay (slice_index_or res k empty) i j → ⊥
pick-misses hay [] from i k j none known m = omega arith
pick-misses hay (re ∷ res) from i zero j none known m =
    let v = value_of_IsSome (attempt hay re accept i) (attempt_complete hay re accept i j m refl) in
    cc (rw v.1 at none)
pick-misses hay (re ∷ res) from i (suc k) j none known m =
    pick-misses hay res (from + 1) i k j
    (option_or_none (hit_of from i (attempt hay re accept i)) (pick hay res (from + 1) i) none).1 (omega arith) m

pub matches-unbound : MatchesAreUnbound
matches-unbound res nfa x k whole kept = (
  unbound-match res x k x.start (nfa.anchored == nfa.unanchored) (omega arith) (λ e. refl),
  λ m. elim kept [
    | inl f ↦ subst (λ (b : Bool). PatternMatches res b x k) (sym f) m
    | inr none ↦ earlier-match res x k x.start (omega arith) m
        (of (is_anchored x.anchored) (nfa.anchored == nfa.unanchored) m none m.to)
  ],
)
  where
    -- without a later hit it starts at the start
    of : (anchored b : Bool) (m : PatternMatches res false x k)
        → ((i : ℕ) → 0 < i → i ≤ length x.haystack → pick x.haystack res 0 i ≡ None)
        → m.start ≤ (if anchored || false then x.start else x.end)
        → m.start ≤ (if anchored || b then x.start else x.end)
    of true b m none to = to
    of false false m none to = to
    of false true m none to = elim (cases_lt 0 m.start) [
      | inl after ↦ absurd (pick-misses x.haystack res 0 m.start k m.end (none m.start after (omega arith))
          m.known m.matches)
      | inr first ↦ omega arith
    ]

same-form : (f g : Form) → f.always_reads ≡ g.always_reads → f.never_reads ≡ g.never_reads
    → f.has_empty_loop ≡ g.has_empty_loop → f.begins_at_start ≡ g.begins_at_start → f ≡ g
same-form f g p q r s =
    λ i. record { always_reads = p i; never_reads = q i; has_empty_loop = r i; begins_at_start = s i }

-- the form of a part that may be left out
abbrev maybe : Form → Form
maybe f = record f { always_reads = false; begins_at_start = false }

-- what comes after a part changes nothing of its form: the part again, nothing, or the part if it may be left out

then-again : (f g : Form) → form_then f (form_then f g) ≡ form_then f g
then-again f g = same-form _ _ (grind arith) (grind arith) (grind arith) (grind arith)

then-empty : (f : Form) → form_then f (form_of empty) ≡ f
then-empty f = same-form _ _ (grind arith) (grind arith) (grind arith) (grind arith)

then-maybe : (f : Form) → form_then f (maybe f) ≡ f
then-maybe f = same-form _ _ (grind arith) (grind arith) (grind arith) (grind arith)

-- copies of a part, and then b
copies-form : (n : ℕ) (a b : Re) → form_of (copies (suc n) a b) ≡ form_then (form_of a) (form_of b)
copies-form zero a b = refl
copies-form (suc n) a b =
    ap (form_then (form_of a)) (copies-form n a b) ∙ then-again (form_of a) (form_of b)

-- a part that may be left out
maybe-form : (greedy : Bool) (a : Re) → form_of (optional greedy a) ≡ maybe (form_of a)
maybe-form true a = same-form _ _ (and-false _) (and-true _) (or-false _) (and-false _)
maybe-form false a = refl

-- up to n + 1 of them
up_to-form : (greedy : Bool) (n : ℕ) (a : Re) → form_of (up_to greedy (suc n) a) ≡ maybe (form_of a)
up_to-form greedy zero a = maybe-form greedy (cat a empty) ∙ same-form _ _ refl (and-true _) (or-false _) refl
up_to-form greedy (suc n) a =
    maybe-form greedy (cat a (up_to greedy (suc n) a))
    ∙ ap (λ f. maybe (form_then (form_of a) f)) (up_to-form greedy n a)
    ∙ same-form _ _ refl (and_self _) (or_self _) refl

-- n + 1 copies, and then up to m more
between-form : (greedy : Bool) (n m : ℕ) (a : Re) → form_of (copies (suc n) a (up_to greedy m a)) ≡ form_of a
between-form greedy n zero a = copies-form n a empty ∙ then-empty (form_of a)
between-form greedy n (suc m) a = grind (arith, copies-form, up_to-form, then-maybe)

-- the form of a repetition is that of its meaning
pub form-repeat : (min : ℕ) (max : Option ℕ) (greedy : Bool) (a : Re)
    → form_repeated (form_of a) min max ≡ form_of (repeat min max greedy a)
unfolding repeat
form-repeat zero None greedy a = sym (maybe-form greedy (plus greedy a))
form-repeat (suc zero) None greedy a = refl
form-repeat (suc (suc n)) None greedy a = grind (arith, copies-form, same-form, or_self, and_self)
form-repeat zero (Some zero) greedy a = refl
form-repeat zero (Some (suc m)) greedy a =
    let all : suc m - 0 ≡ suc m = omega arith in
    subst (λ n. form_repeated (form_of a) 0 (Some (suc m)) ≡ form_of (up_to greedy n a)) (sym all)
    (sym (up_to-form greedy m a))
form-repeat (suc n) (Some m) greedy a = sym (between-form greedy n (m - suc n) a)

-- a list from i - 1 on begins with the item there
pub drop-back : {A : Type 0} (xs : List A) (i : ℕ) (x : A) → 0 < i → i ≤ length xs → x ≡ get_or xs (i - 1) x
    → drop (i - 1) xs ≡ x ∷ drop i xs
drop-back xs i x some within is = grind (arith, drop-cons)
