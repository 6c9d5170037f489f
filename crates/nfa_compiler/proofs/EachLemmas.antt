-- What holds of each hit that a search tries holds of the hit that it finds: its place, and that its pattern is known.
use Rattle.nfa_paths.proofs.Common.{Option, None, Some, option_or, ◌≡◌, ℕ, zero, suc, ◌+◌, ◌-◌, ◌≤◌, ◌<◌, Bool, true, false, List, [], ◌∷◌, arith, All, option_and_then, slice_get, if◌then◌else◌, cases_lt, lt-ltb, le-ltb, All-head, All-tail, Search, No, length, slice_get_within}
use Rattle.nfa_compiler.specs.Common.{Matches, Re, Trace, accept, attempt, is_none_or, is_some_and, ends_on_boundary, expected_on_boundary, on_boundary, restarted_hit, PatternHit, expected, first_hit, hit_of, hit_of_search, pick, pick_one, expected_in_str}
use Rattle.regex_hir.proofs.AttemptLemmas.{attempt_sound}
use Rattle.regex_hir.proofs.MatchesLemmas.{Matches-IsSpan}

-- both options are none, or both have values that are related
abbrev pub Both : {A B : Type 0} → (A → B → Type 0) → Option A → Option B → Type 0
Both R None None = Unit {0}
Both R None (Some b) = ⊥
Both R (Some a) None = ⊥
Both R (Some a) (Some b) = R a b

module _ {A B : Type 0} (R : A → B → Type 0) where
  -- what is so of none, and of related values, is so of the two
  pub both-elim : (P : Option A → Option B → Type 0) → P None None → ((a : A) (b : B) → R a b → P (Some a) (Some b))
      → (o : Option A) (r : Option B) → Both R o r → P o r
  both-elim P none some None None h = none
  both-elim P none some None (Some b) h = absurd h
  both-elim P none some (Some a) None h = absurd h
  both-elim P none some (Some a) (Some b) h = some a b h

  -- the first of two
  pub both-or : (o u : Option A) (r q : Option B) → Both R o r → Both R u q → Both R (option_or o u) (option_or r q)
  both-or o u r q h k = both-elim (λ o r. Both R (option_or o u) (option_or r q)) k (λ a b h. h) o r h

-- What is so of two searches without hits, and in each mode of theirs, is so of the two.
module _ (x : Search) (R : Option PatternHit → Option PatternHit → Type 0) (none : R None None)
    {free other at bt : Option PatternHit} {one two : ℕ → Option PatternHit} where
  pub in-each-mode : (x.start ≤ x.end → x.anchored ≡ No → R free other) → (x.start ≤ x.end → R at bt)
      → (x.start ≤ x.end → (k : ℕ) → R (one k) (two k))
      → R (hit_of_search x free at one) (hit_of_search x other bt two)
  in-each-mode frees ats ones = grind (arith, cases_lt, lt-ltb, le-ltb)

module _ (P : PatternHit → Type 0) where
  -- the hit is so, if there is one
  abbrev pub Each : Option PatternHit → Type 0
  Each o = (h : PatternHit) → o ≡ Some h → P h

  none-each : Each None
  none-each h never = absurd (cc)

  either : (b : Bool) (o u : Option PatternHit) → Each o → Each u → Each (if b then o else u)
  either b o u first second = grind (arith, first, second)

  -- what is left of a hit
  left-each : (b : Bool) (o : Option PatternHit) → Each o → Each (if b then o else None)
  left-each b o each = either b o None each none-each

  or-each : (o u : Option PatternHit) → Each o → Each u → Each (option_or o u)
  or-each o u first second = grind arith

  searched-each : (x : Search) {free at : Option PatternHit} {one : ℕ → Option PatternHit}
      → (x.start ≤ x.end → x.anchored ≡ No → Each free) → (x.start ≤ x.end → Each at)
      → (x.start ≤ x.end → (k : ℕ) → Each (one k)) → Each (hit_of_search x free at one)
  searched-each x =
      in-each-mode x (λ o u. Each o) none-each {other = None} {bt = None} {two = λ k. None}

  -- one of the n positions from i on
  module _ (at : ℕ → Option PatternHit) where
    abbrev EachOf : ℕ → ℕ → Type 0
    EachOf n i = (l : ℕ) → i ≤ l → l < i + n → Each (at l)

    first-each : (n i : ℕ) → EachOf n i → Each (first_hit at n i)
    first-each zero i each = none-each
    first-each (suc n) i each =
        or-each (at i) (first_hit at n (i + 1)) (each i (omega arith) (omega arith))
        (first-each n (i + 1) (λ l from to. each l (omega arith) (omega arith)))

    restarted-each : (haystack : List ℕ) (n i : ℕ) → EachOf n i → Each (restarted_hit haystack at n i)
    restarted-each haystack zero i each = none-each
    restarted-each haystack (suc n) i each =
        either (is_none_or (at i) (ends_on_boundary haystack)) (at i) (restarted_hit haystack at n (i + 1))
        (each i (omega arith) (omega arith))
        (restarted-each haystack n (i + 1) (λ l from to. each l (omega arith) (omega arith)))

-- the match that an attempt finds
pub attempt-matches : (haystack : List ℕ) (re : Re) (i : ℕ) (t : Trace) → attempt haystack re accept i ≡ Some t
    → Matches haystack re i t.end
attempt-matches haystack re i t e = grind (arith, attempt_sound)

-- Patterns that are Q at position i, if each match of such a pattern makes a hit P.
module _ (haystack : List ℕ) (i : ℕ) (Q : Re → Type 0) (P : PatternHit → Type 0)
    (makes : (re : Re) → Q re → (h : PatternHit) → h.start ≡ i → Matches haystack re i h.trace.end → P h) where
  tried-each : (re : Re) → Q re → (k : ℕ) → Each P (hit_of k i (attempt haystack re accept i))
  tried-each re q k h e = grind (arith, makes re q h, attempt-matches haystack re i)

  pub pick-each : (res : List Re) → All Q res → (k : ℕ) → Each P (pick haystack res k i)
  pick-each [] all k = none-each P
  pick-each (re ∷ res) all k =
      or-each P (hit_of k i (attempt haystack re accept i)) (pick haystack res (k + 1) i)
      (tried-each re (All-head Q re res all) k) (pick-each res (All-tail Q re res all) (k + 1))

  pub pick_one-each : (res : List Re) → All Q res → (place k : ℕ)
      → Each P (option_and_then (λ re. hit_of k i (attempt haystack re accept i)) (slice_get res place))
  pick_one-each [] all place k = none-each P
  pick_one-each (re ∷ res) all zero k = tried-each re (All-head Q re res all) k
  pick_one-each (re ∷ res) all (suc place) k = pick_one-each res (All-tail Q re res all) place k

-- the hit of a search, if all patterns at each position of its span and each of them at its start are tried
module _ (P : PatternHit → Type 0) (res : List Re) (bound : Bool) (x : Search)
    (all : (i : ℕ) → x.start ≤ i → i ≤ x.end → Each P (pick x.haystack res 0 i))
    (each : x.start ≤ x.end → (k : ℕ) → Each P (pick_one x.haystack res k x.start)) where
  abbrev at_place : ℕ → Option PatternHit
  at_place = pick x.haystack res 0

  here : x.start ≤ x.end → Each P (at_place x.start)
  here inside = all x.start (omega arith) inside

  in-span : (b : Bool) (at : ℕ → Option PatternHit) → ((i : ℕ) → x.start ≤ i → i ≤ x.end → Each P (at i))
      → x.start ≤ x.end → Each P (first_hit at (if b then 1 else (x.end - x.start + 1)) x.start)
  in-span true at tried inside = first-each P at 1 x.start (λ l from to. tried l from (omega arith))
  in-span false at tried inside =
      first-each P at (x.end - x.start + 1) x.start (λ l from to. tried l from (omega arith))

  pub hit-each : Each P (expected res bound x)
  unfolding expected
  hit-each = searched-each P x (λ inside free. in-span bound at_place all inside) here each

  pub boundary-each : Each P (expected_on_boundary res bound x)
  unfolding expected_on_boundary
  boundary-each = searched-each P x (λ inside free. unanchored inside bound)
      (λ inside. on at_place x.start (here inside))
      (λ inside k. on (pick_one x.haystack res k) x.start (each inside k))
    where
      on : (at : ℕ → Option PatternHit) (i : ℕ) → Each P (at i) → Each P (on_boundary x.haystack (at i))
      on at i = left-each P (is_some_and (at i) (ends_on_boundary x.haystack)) (at i)

      unanchored : x.start ≤ x.end → (b : Bool)
          → Each P (if b then restarted_hit x.haystack at_place (x.end - x.start + 1) x.start
          else first_hit (λ i. on_boundary x.haystack (at_place i)) (x.end - x.start + 1) x.start)
      unanchored inside true = restarted-each P at_place x.haystack (x.end - x.start + 1) x.start
          (λ l from to. all l from (omega arith))
      unanchored inside false = in-span false (λ i. on_boundary x.haystack (at_place i))
          (λ i from to. on at_place i (all i from to)) inside

  pub str-each : Each P (expected_in_str res bound x)
  unfolding expected_in_str
  str-each = grind (arith, searched-each, in-span, left-each, here)

-- the hit starts at a position from `from` to `to`, and ends from there on within the haystack
pub record LiesFrom (haystack : List ℕ) (from to : ℕ) (h : PatternHit) : Type 0 where
  pub after : from ≤ h.start
  pub before : h.start ≤ to
  pub onward : h.start ≤ h.trace.end
  pub inside : h.trace.end ≤ length haystack

module _ (haystack : List ℕ) where
  -- a match makes such a hit
  lies : (i : ℕ) → i ≤ length haystack → (re : Re) → Unit {0} → (h : PatternHit) → h.start ≡ i
      → Matches haystack re i h.trace.end → LiesFrom haystack i i h
  lies i within re any h start m = grind (arith, Matches-IsSpan haystack re i h.trace.end m)

  pub of-pick : (res : List Re) (k i : ℕ) (h : PatternHit) → i ≤ length haystack → pick haystack res k i ≡ Some h
      → LiesFrom haystack i i h
  of-pick res k i h within =
      pick-each haystack i (λ re. Unit {0}) (LiesFrom haystack i i) (lies i within) res (λ j d less. tt) k h

  of-pick-one : (res : List Re) (k i : ℕ) (h : PatternHit) → i ≤ length haystack → pick_one haystack res k i ≡ Some h
      → LiesFrom haystack i i h
  of-pick-one res k i h within =
      pick_one-each haystack i (λ re. Unit {0}) (LiesFrom haystack i i) (lies i within) res (λ j d less. tt) k k h

-- the hit of a search starts at or after the search's start
module _ (res : List Re) (bound : Bool) (x : Search) (h : PatternHit) (whole : x.end ≡ length x.haystack) where
  abbrev Lies : PatternHit → Type 0
  Lies = LiesFrom x.haystack x.start (length x.haystack + 1)

  wider : (i : ℕ) → x.start ≤ i → i ≤ x.end → (g : PatternHit) → LiesFrom x.haystack i i g → Lies g
  wider i from to g l = grind arith

  all-lie : (i : ℕ) → x.start ≤ i → i ≤ x.end → Each Lies (pick x.haystack res 0 i)
  all-lie i from to g e = wider i from to g (of-pick x.haystack res 0 i g (omega arith) e)

  each-lies : x.start ≤ x.end → (k : ℕ) → Each Lies (pick_one x.haystack res k x.start)
  each-lies inside k g e = wider x.start (omega arith) inside g (of-pick-one x.haystack res k x.start g (omega arith) e)

  pub hit-lies : expected res bound x ≡ Some h → Lies h
  hit-lies = hit-each Lies res bound x all-lie each-lies h

  pub boundary-lies : expected_on_boundary res bound x ≡ Some h → Lies h
  boundary-lies = boundary-each Lies res bound x all-lie each-lies h

  pub str-lies : expected_in_str res bound x ≡ Some h → Lies h
  str-lies = str-each Lies res bound x all-lie each-lies h

-- its pattern

pub numbered : (k i : ℕ) (o : Option Trace) (h : PatternHit) → hit_of k i o ≡ Some h → h.pattern ≡ k
numbered k i o h e = grind arith

pick-known : (haystack : List ℕ) (res : List Re) (k i : ℕ) (h : PatternHit) → pick haystack res k i ≡ Some h
    → h.pattern < k + length res
pick-known haystack [] k i h never = absurd (cc)
pick-known haystack (re ∷ res) k i h e =
    grind (arith, numbered k i (attempt haystack re accept i) h, pick-known haystack res (k + 1) i h)

one-known : (haystack : List ℕ) (res : List Re) (k i : ℕ) (h : PatternHit) → pick_one haystack res k i ≡ Some h
    → h.pattern < length res
one-known haystack res k i h e = grind (arith, slice_get_within res k)

module _ (res : List Re) (bound : Bool) (x : Search) (h : PatternHit) where
  abbrev Known : PatternHit → Type 0
  Known g = g.pattern < length res

  all-known : (i : ℕ) → x.start ≤ i → i ≤ x.end → Each Known (pick x.haystack res 0 i)
  all-known i from to g e = omega (arith, pick-known x.haystack res 0 i g e)

  each-known : x.start ≤ x.end → (k : ℕ) → Each Known (pick_one x.haystack res k x.start)
  each-known inside k = one-known x.haystack res k x.start

  pub hit-pattern : expected res bound x ≡ Some h → Known h
  hit-pattern = hit-each Known res bound x all-known each-known h

  pub boundary-pattern : expected_on_boundary res bound x ≡ Some h → Known h
  boundary-pattern = boundary-each Known res bound x all-known each-known h

  pub str-pattern : expected_in_str res bound x ≡ Some h → Known h
  str-pattern = str-each Known res bound x all-known each-known h
