-- What searches find, as functions of the pattern and the text.
use Rattle.regex_hir.proofs.FindLemmas.{IsFirst-of_first_between, find_complete, find_sound, first_between_cong}
use Rattle.regex_syntax.proofs.TreeLaws.{same_refl}
use Rattle.nfa_paths.proofs.Common.{◌≡◌, ◌∙◌, ℕ, ◌<◌, All, Bool, true, false, List, [], ◌∷◌, drop, length, map, Option, None, Some, refl, sym, ap, subst, arith, chars, ◌↔◌, IsSomeAnd, is_some, option_and_then, option_map, AllZip, Automaton, Found, group_named, slot_count, LeftmostFirst, IsAnswer, IsBoolAnswer, IsFindAnswer, whole, Captured, group_span, named_span}
use Rattle.nfa_paths.proofs.MemberLemmas.{same_test}
use Rattle.nfa_search_base.specs.Lists.{AreMatches}
use Rattle.nfa_compiler.proofs.SearchLemmas.{answer-is}
use Rattle.nfa_compiler.proofs.CallLemmas.{call-answered, call-matches, call-name, groups-of-one, match-found}
use Rattle.nfa_compiler.proofs.WrittenLemmas.{found-as-read}
use Rattle.nfa_compiler.specs.Common.{Match, find, Re, accept, attempt, Nested, Names, read, SameTree, Reads, Parsed, IsMeant, IsTreeOf, IsNamed, written_span, AreOfHit, PatternHit, found_by, hit_by, IsReadAs, MatchesIn, byte_syntax}
use Rattle.nfa_compiler.specs.WrittenPatterns.{IsOfPattern, all_matches, first_match, has_match, named_span_in}

-- the pattern of an NFA is one
some-read : (o : Option (Nested Re × Names)) (P : Nested Re × Names → Type 0) → IsSomeAnd o P
    → (v : Nested Re × Names) × (o ≡ Some v)
some-read None P h = absurd h
some-read (Some v) P h = (v, refl)

-- there is a first match exactly if the pattern matches somewhere
pub finds-iff : (re : Re) (text : List ℕ) → (is_some (find re text 0) ≡ true) ↔ MatchesIn text re
unfolding find
finds-iff re text = (
  λ e. of (find re text 0) refl e,
  λ m. find_complete re text 0 m.start m.end (omega arith) m.within m.matches,
)
  where
    of : (o : Option Match) → find re text 0 ≡ o → is_some o ≡ true → MatchesIn text re
    of None at never = absurd (cc)
    of (Some m) at some =
        let first = IsFirst-of_first_between (attempt text re accept) 0 (length text) m at in
        record { start = m.start; end = m.trace.end; within = first.to; matches = (find_sound re text 0 m at).1 }

pub found-finds : (re : Re) (text : List ℕ) (found : Bool) → (found ≡ true) ↔ MatchesIn text re
    → found ≡ is_some (find re text 0)
found-finds re text found either =
    let both = finds-iff re text in
    same_test found (is_some (find re text 0)) (λ e. both.1 (either.0 e)) (λ e. either.1 (both.0 e))

-- two ways to write a pattern that are read alike find the same
pub find-same : (a b : Re) → SameTree a b → (text : List ℕ) → All (λ x. x < 256) text → find a text 0 ≡ find b text 0
unfolding find
find-same a b same text bytes =
    first_between_cong (attempt text a accept) (attempt text b accept) 0 (length text)
    (λ i from to. same.matches.at text bytes accept i)

-- the captures of a match, or of none, for a name that no group has
none-name : (c : Captured) (name : List ℕ) (o : Option Match) → c.pattern ≡ option_map (λ (m : Match). 0) o
    → group_named c.groups 0 name ≡ None → named_span c name ≡ None
none-name c name None at group =
    ap (option_and_then (λ k. option_and_then (λ g. group_span c g) (group_named c.groups k name))) at
none-name c name (Some m) at group =
    ap (option_and_then (λ k. option_and_then (λ g. group_span c g) (group_named c.groups k name))) at
    ∙ ap (option_and_then (λ g. group_span c g)) group

zero-hit : (o : Option Match)
    → option_map (λ (h : PatternHit). h.pattern) (option_map (hit_by 0) o) ≡ option_map (λ (m : Match). 0) o
zero-hit None = refl
zero-hit (Some m) = refl

module _ (pattern : List ℕ) (nfa : Automaton) (own : IsOfPattern pattern nfa) where
  read-is : (v : Nested Re × Names) × (read byte_syntax (chars pattern) ≡ Some v)
  unfolding Reads
  read-is = of own.compiled.trees own.compiled.read
    where
      of : (trees : List Parsed) → AllZip (IsTreeOf byte_syntax) (pattern ∷ []) trees
          → (v : Nested Re × Names) × (read byte_syntax (chars pattern) ≡ Some v)
      of [] h = absurd h
      of (tree ∷ trees) h = some-read (read byte_syntax (chars pattern)) _ h.0.reads

  abbrev re : Re
  re = read-is.0.0.value

  abbrev names : Names
  names = read-is.0.1

  meant : IsMeant byte_syntax pattern re
  meant = subst (λ o. IsSomeAnd o (λ (found, given). found.value ≡ re)) (sym read-is.1) refl

  named : IsNamed byte_syntax pattern names
  named = subst (λ o. IsSomeAnd o (λ (found, given). given ≡ names)) (sym read-is.1) refl

  read-as : IsReadAs byte_syntax pattern re
  read-as = subst (λ o. IsSomeAnd o (λ (found, given). SameTree found.value re)) (sym read-is.1) (same_refl re)

  -- what searches of a whole text find
  module _ (text : List ℕ) (bytes : All (λ x. x < 256) text) where
    first-is : first_match pattern text ≡ find re text 0
    unfolding first_match
    first-is = ap (option_and_then (λ ((found, given) : Nested Re × Names). find found.value text 0)) read-is.1

    pub match-is : (found : Option Found) → IsFindAnswer nfa LeftmostFirst false (whole text) found
        → found ≡ option_map found_by (first_match pattern text)
    match-is found answer =
        match-found _ (call-answered byte_syntax pattern nfa text own.compiled own.anywhere own.free bytes re meant)
        found answer
        ∙ ap (option_map found_by) (sym first-is)

    pub matches-are : (found : List Found) → AreMatches nfa LeftmostFirst false (whole text) found
        → found ≡ map found_by (all_matches pattern text)
    unfolding all_matches
    matches-are found all =
        rw read-is.1 (call-matches byte_syntax pattern nfa text own.compiled own.anywhere own.free bytes re meant found
        all)

    pub has-match : (found : Bool) → IsBoolAnswer nfa LeftmostFirst false (whole text) found
        → found ≡ has_match pattern text
    has-match found answer =
        found-finds re text found (found-as-read byte_syntax pattern nfa text own.compiled own.anywhere own.free bytes
        re read-as found answer)
        ∙ ap is_some (sym first-is)

    module _ (captures : Captured) (name : List ℕ)
        (answer : IsAnswer nfa LeftmostFirst false (whole text) captures.pattern captures.slots)
        (same : captures.groups ≡ nfa.groups) (room : length captures.slots ≡ slot_count nfa.groups) where
      hit : AreOfHit nfa.groups (option_map (hit_by 0) (find re text 0)) captures.pattern captures.slots
      hit = answer-is (call-answered byte_syntax pattern nfa text own.compiled own.anywhere own.free bytes re meant)
          captures.pattern captures.slots answer

      by-group : (o : Option ℕ) → group_named (drop 1 names ∷ []) 0 name ≡ o
          → named_span captures name
          ≡ option_and_then (λ group. option_and_then (written_span group) (find re text 0)) o
      by-group (Some group) is =
          call-name byte_syntax pattern nfa own.compiled names named captures name group (find re text 0) same room is
          hit
      by-group None is =
          none-name captures name (find re text 0) (hit.0 ∙ zero-hit (find re text 0))
          (ap (λ gs. group_named gs 0 name) (same ∙ groups-of-one byte_syntax pattern nfa own.compiled names named)
          ∙ is)

      pub name-is : named_span captures name ≡ named_span_in pattern name text
      unfolding named_span_in
      name-is = by-group (group_named (drop 1 names ∷ []) 0 name) refl ∙ sym (ap (option_and_then
          (λ ((found, given) : Nested Re × Names). option_and_then
          (λ group. option_and_then (written_span group) (find found.value text 0))
          (group_named (drop 1 given ∷ []) 0 name))) read-is.1)
