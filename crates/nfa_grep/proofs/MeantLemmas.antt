-- From the laws on searches of texts to what the patterns, and their alternation, find in a line.
use Rattle.regex_hir.proofs.AttemptLemmas.{attempt_sound}
use Rattle.regex_hir.proofs.MatchesLemmas.{IsMinLen-no_byte}
use Rattle.regex_hir.proofs.OptionLemmas.{option_or-None}
use Rattle.nfa_paths.proofs.Common.{◌≡◌, ◌∙◌, ℕ, zero, suc, ◌+◌, ◌<◌, Bool, false, inl, inr, List, [], ◌∷◌, length, map, refl, sym, ap, ap₂, add-one, arith, All, Option, None, Some, is_some, option_map, nat_lt, if◌then◌else◌, ◌==◌, AllZip, cases_Bool, lt-ltb, length-map, Found, found_of, Match, whole, Automaton, ◌-◌, ◌≤◌, option_or}
use Rattle.nfa_compiler.specs.Common.{is_some_and, SameCaptures, all_hits, hit_after, hits_from, FindsFromAnyStart, IsNfaOf, hit, PatternHit, found_at, IsMinLen, Matches, alt_all, Trace, accept, attempt, byte_in, expected, first_hit, hit_of, pick}
use Rattle.nfa_compiler.proofs.MeantLemmas.{AreAlike, expected-alike}
use Rattle.nfa_compiler.proofs.UnboundLemmas.{hit-unbound, loses-none}
use Rattle.nfa_grep.specs.Meant.{all_found, hit_from, is_found, span_of, Re, IsOfAll}

-- something is found exactly if there are hits

no-hits : (from : ℕ → Option PatternHit) (n : ℕ) (o : Option PatternHit) → is_some o ≡ false
    → map found_at (hits_from from (suc n) o) ≡ []
unfolding hits_from
no-hits from n None none = refl
no-hits from n (Some h) never = absurd cc

is-hit : (from : ℕ → Option PatternHit) (n : ℕ) (o : Option PatternHit)
    → is_some o ≡ nat_lt 0 (length (map found_at (hits_from from (suc n) o)))
unfolding hits_from
is-hit from n None = refl
is-hit from n (Some h) = sym (lt-ltb 0 _ (omega arith))

module _ (res : List Re) (text : List ℕ) where
  pub all-none : is_found res text ≡ false → all_found res text ≡ []
  all-none none = rw add-one (no-hits (hit_from res text) (length text) (hit_from res text 0) none)

  pub found-is : is_found res text ≡ nat_lt 0 (length (all_found res text))
  found-is = rw add-one (is-hit (hit_from res text) (length text) (hit_from res text 0))

  -- these are all matches
  pub found-if-any : (ms : List Match) (any : Bool) → map span_of (map found_of ms) ≡ map span_of (all_found res text)
      → any ≡ nat_lt 0 (length ms) → any ≡ is_found res text
  found-if-any ms any all is =
      is
      ∙ ap (nat_lt 0) (sym (length-map ms found_of) ∙ sym (length-map (map found_of ms) span_of) ∙ ap length all
      ∙ length-map (all_found res text) span_of)
      ∙ sym found-is

module _ (res : List Re) (nfa : Automaton) (text : List ℕ) (made : IsNfaOf res nfa) (free : FindsFromAnyStart nfa) where
  -- the hit from each place on is that of a search that is not bound to it
  same-from : (i : ℕ) → hit res nfa (record (whole text) { start = i }) ≡ hit_from res text i
  same-from i = hit-unbound res nfa (record (whole text) { start = i }) refl (loses-none res nfa made free text)

  -- the NFA has a hit exactly if the patterns do
  pub found-of-hit : is_some (hit res nfa (whole text)) ≡ is_found res text
  found-of-hit = ap is_some (same-from 0)

  -- the hits of the NFA are those of the patterns
  pub found-of-hits : (ms : List Found) → ms ≡ map found_at (all_hits res nfa (whole text)) → ms ≡ all_found res text
  found-of-hits ms e =
      let all : (λ i. hit res nfa (record (whole text) { start = i })) ≡ hit_from res text = λ t i. same-from i t in
      e ∙ ap₂ (λ (from : ℕ → Option PatternHit) (first : Option PatternHit). map found_at
      (hits_from from (length text + 1) first)) all (same-from 0)

-- where a hit starts and ends, if there is one
abbrev pub span_at : Option PatternHit → Option (ℕ × ℕ)
span_at o = option_map (λ h. (h.start, h.trace.end)) o

some-span : (o : Option PatternHit) → is_some (span_at o) ≡ is_some o
some-span None = refl
some-span (Some h) = refl

-- the hit after one that ended at i, of the hit from there and the one from the next place on
abbrev chosen : ℕ → Option PatternHit → Option PatternHit → Option PatternHit
chosen i here next = if is_some_and here (λ h. h.trace.end == i) then next else here

same-chosen : (i : ℕ) (a b c d : Option PatternHit) → span_at a ≡ span_at b → span_at c ≡ span_at d
    → span_at (chosen i a c) ≡ span_at (chosen i b d)
same-chosen i None None c d same next = refl
same-chosen i None (Some k) c d same next = absurd (cc)
same-chosen i (Some h) None c d same next = absurd (cc)
same-chosen i (Some h) (Some k) c d same next =
    let spans : (h.start, h.trace.end) ≡ (k.start, k.trace.end) = cc in
    let ends : (h.trace.end == i) ≡ (k.trace.end == i) = ap (λ (s : ℕ × ℕ). s.1 == i) spans in
    elim (cases_Bool (k.trace.end == i)) [
      | inl there ↦ rw (ends, there) next
      | inr other ↦ rw (ends, other) same
    ]

-- two ways to search whose hits are at the same places
module _ (f g : ℕ → Option PatternHit) (same : (i : ℕ) → span_at (f i) ≡ span_at (g i)) where
  hits-same : (n : ℕ) (a b : Option PatternHit) → span_at a ≡ span_at b
      → map span_of (map found_at (hits_from f n a)) ≡ map span_of (map found_at (hits_from g n b))
  unfolding hits_from
  hits-same zero a b e = refl
  hits-same (suc n) None None e = refl
  hits-same (suc n) None (Some k) e = absurd (cc)
  hits-same (suc n) (Some h) None e = absurd (cc)
  hits-same (suc n) (Some h) (Some k) e =
      let here : (h.start, h.trace.end) ≡ (k.start, k.trace.end) = cc in
      let end = h.trace.end in
      let after : span_at (hit_after f end) ≡ span_at (hit_after g k.trace.end) =
      same-chosen end (f end) (g end) (f (end + 1)) (g (end + 1)) (same end) (same (end + 1))
      ∙ ap (λ (s : ℕ × ℕ). span_at (hit_after g s.1)) here in
      ap₂ (λ (s : ℕ × ℕ) (l : List (ℕ × ℕ)). s ∷ l) here
      (hits-same n (hit_after f end) (hit_after g k.trace.end) after)

module _ (text : List ℕ) (ones others : List Re)
    (same : (i : ℕ) → span_at (hit_from ones text i) ≡ span_at (hit_from others text i)) where
  pub found-by-spans : is_found ones text ≡ is_found others text
  found-by-spans =
      sym (some-span (hit_from ones text 0)) ∙ ap is_some (same 0) ∙ some-span (hit_from others text 0)

  pub spans-by-spans : map span_of (all_found ones text) ≡ map span_of (all_found others text)
  spans-by-spans =
      hits-same (hit_from ones text) (hit_from others text) same (length text + 1) (hit_from ones text 0)
      (hit_from others text 0) (same 0)

alike-span : (a b : Option PatternHit) → AreAlike a b → span_at a ≡ span_at b
alike-span None None same = refl
alike-span None (Some h) same = absurd same
alike-span (Some h) None same = absurd same
alike-span (Some h) (Some g) same = λ i. Some (same.start i, same.end i)

-- patterns that match alike
module _ (text : List ℕ) (bytes : All (λ b. b < 256) text) (trees res : List Re)
    (same : AllZip SameCaptures trees res) where
  span-alike : (i : ℕ) → span_at (hit_from trees text i) ≡ span_at (hit_from res text i)
  span-alike i = alike-span (hit_from trees text i) (hit_from res text i)
      (expected-alike (record (whole text) { start = i }) bytes trees res false same)

  pub found-same : is_found trees text ≡ is_found res text
  found-same = found-by-spans text trees res span-alike

  pub spans-same : map span_of (all_found trees text) ≡ map span_of (all_found res text)
  spans-same = spans-by-spans text trees res span-alike

module _ (hay : List ℕ) where
  no-byte : (i j : ℕ) → Matches hay (byte_in []) i j → ⊥
  unfolding IsMinLen
  no-byte i j m =
      let least : i + (j + 1) ≤ j = IsMinLen-no_byte (j + 1) hay i j m in
      absurd (omega (arith, least))

  -- without a branch there is no match
  no-branch : (i : ℕ) → attempt hay (alt_all []) accept i ≡ None
  no-branch i = of (attempt hay (byte_in []) accept i) refl
    where
      of : (o : Option Trace) → attempt hay (byte_in []) accept i ≡ o → attempt hay (byte_in []) accept i ≡ None
      of None is = is
      of (Some t) is =
          let match = attempt_sound hay (byte_in []) accept i t is in absurd (no-byte i match.at match.leads)

  first-branch : (re : Re) (res : List Re) (i : ℕ) → attempt hay (alt_all (re ∷ res)) accept i
      ≡ option_or (attempt hay re accept i) (attempt hay (alt_all res) accept i)
  unfolding attempt
  first-branch re res i = refl

  -- the first branch that matches is the first pattern that does
  pick-joined : (res : List Re) (k i : ℕ)
      → span_at (hit_of 0 i (attempt hay (alt_all res) accept i)) ≡ span_at (pick hay res k i)
  pick-joined [] k i = ap (λ (o : Option Trace). span_at (hit_of 0 i o)) (no-branch i)
  pick-joined (re ∷ res) k i =
      ap (λ (o : Option Trace). span_at (hit_of 0 i o)) (first-branch re res i)
      ∙ of (attempt hay re accept i) (pick-joined res (k + 1) i)
    where
      of : (t : Option Trace)
          → span_at (hit_of 0 i (attempt hay (alt_all res) accept i)) ≡ span_at (pick hay res (k + 1) i)
          → span_at (hit_of 0 i (option_or t (attempt hay (alt_all res) accept i)))
          ≡ span_at (option_or (hit_of k i t) (pick hay res (k + 1) i))
      of None later = later
      of (Some t) later = refl

  first-joined : (res : List Re) (n i : ℕ)
      → span_at (first_hit (pick hay (alt_all res ∷ []) 0) n i) ≡ span_at (first_hit (pick hay res 0) n i)
  first-joined res zero i = refl
  first-joined res (suc n) i =
      span-or (pick hay (alt_all res ∷ []) 0 i) _
      ∙ ap₂ option_or (ap span_at (option_or-None (hit_of 0 i (attempt hay (alt_all res) accept i)))
      ∙ pick-joined res 0 i) (first-joined res n (i + 1))
      ∙ sym (span-or (pick hay res 0 i) _)
    where
      span-or : (a b : Option PatternHit) → span_at (option_or a b) ≡ option_or (span_at a) (span_at b)
      span-or None b = refl
      span-or (Some h) b = refl

module _ (res : List Re) (text : List ℕ) where
  from-joined : (i : ℕ) → span_at (hit_from (alt_all res ∷ []) text i) ≡ span_at (hit_from res text i)
  unfolding expected
  from-joined i = elim (cases_Bool (nat_lt (length text) i)) [
    | inl past ↦ rw past refl
    | inr inside ↦ rw inside (first-joined text res (length text - i + 1) i)
  ]

-- what a search of an NFA of the patterns, or of their alternation, finds
module _ (res : List Re) (nfa : Automaton) (text : List ℕ) (free : FindsFromAnyStart nfa) where
  pub found-of-all : (answer : Bool) → IsOfAll res nfa
      → ((some : List Re) → IsNfaOf some nfa → answer ≡ is_some (hit some nfa (whole text)))
      → answer ≡ is_found res text
  found-of-all answer (inl made) law = law res made ∙ found-of-hit res nfa text made free
  found-of-all answer (inr made) law =
      law (alt_all res ∷ []) made ∙ found-of-hit (alt_all res ∷ []) nfa text made free
      ∙ found-by-spans text (alt_all res ∷ []) res (from-joined res text)

  pub spans-of-all : (ms : List Found) → IsOfAll res nfa
      → ((some : List Re) → IsNfaOf some nfa → ms ≡ map found_at (all_hits some nfa (whole text)))
      → map span_of ms ≡ map span_of (all_found res text)
  spans-of-all ms (inl made) law =
      ap (map span_of) (found-of-hits res nfa text made free ms (law res made))
  spans-of-all ms (inr made) law =
      ap (map span_of) (found-of-hits (alt_all res ∷ []) nfa text made free ms (law (alt_all res ∷ []) made))
      ∙ spans-by-spans text (alt_all res ∷ []) res (from-joined res text)
