-- The laws of compiled NFAs, in the order of `src/laws.rt`: their searches find what their patterns mean.
use Rattle.std.specs.Prelude.{◌≡◌, ◌↔◌, ◌⊎◌, ℕ, ◌≤◌, ◌<◌, All, Bool, true, false, IsUtf8, List, [], ◌∷◌, drop, length, map, Option, Some, is_some, option_map, slice_index_or, ◌==◌}
use Rattle.regex_hir.specs.declared.look.Look as theirs
use Rattle.regex_syntax.specs.WellFormed.{IsWellFormed}
use Rattle.regex_search_core.specs.declared.search.MatchKind.TheVariants as match_kind
use Rattle.nfa_search_base.specs.Common.{IsBoundary, Found, group_named, groups_at, Search, group_span, named_span, MatchKind, Automaton, Yes, No, HoldsPattern, IsAnswer, IsBoolAnswer, IsFindAnswer, IsOverlapResult, is_utf8_empty, look_holds, AreMatches, AreRows, Row}
use Rattle.nfa_paths.specs.Starts.{StartsMatchTheirPatterns}
use Rattle.nfa_paths.specs.StatePaths.{RecordsMatchSpans}
use Rattle.nfa_compiler.specs.Common.{Match, Matches, Re, empty, holds, meaning, Config, Parsed, look_of, AreMeant, AreNamed, FindsFromAnyStart, IsCompiled, IsNfaOf, LosesNoHit, begins_at_start, AreOfHit, HitOf, IsLeftmostToTheEnd, PatternHit, StartsOnBoundary, all_of, boundary_hit, captures_of, found_at, found_of_hit, hit_by, row_of_hit, str_hit, MatchesCharacters, MatchesSomewhere, PatternMatches, written_span}

-- each assertion holds exactly if its counterpart does
abbrev pub LooksAgree : Type 0
LooksAgree = (l : theirs.Look) (hay : List ℕ) (i : ℕ) → i ≤ length hay → look_holds (look_of l) hay i ≡ holds l hay i

-- Each way through the states of an NFA writes its start and its end. The NFA is made of patterns, or of texts.
abbrev pub PatternsRecordBounds : Type 0
PatternsRecordBounds = (res : List Re) (nfa : Automaton) → IsNfaOf res nfa → RecordsMatchSpans nfa

abbrev pub TextsRecordBounds : Type 0
TextsRecordBounds =
    (syntax : Config) (texts : List (List ℕ)) (nfa : Automaton) → IsCompiled syntax texts nfa → RecordsMatchSpans nfa

-- P holds of an NFA, which is made of patterns or of texts, and of a search.
abbrev pub HoldsForPatterns : (Automaton → Search → Type 0) → Type 0
HoldsForPatterns P = (res : List Re) (nfa : Automaton) (x : Search) → IsNfaOf res nfa → P nfa x

abbrev pub HoldsForTexts : (Automaton → Search → Type 0) → Type 0
HoldsForTexts P =
    (syntax : Config) (texts : List (List ℕ)) (nfa : Automaton) (x : Search) → IsCompiled syntax texts nfa → P nfa x

-- a pattern that is searched alone matches as no other
abbrev pub MatchAlone : Automaton → Search → Type 0
MatchAlone nfa x = x.anchored ≡ Yes → StartsMatchTheirPatterns nfa x

-- The pattern and the slots of a search are those of the first hit: if a match may end anywhere; and, if `utf8`, in
-- UTF-8 mode of patterns that may match the empty string.
abbrev pub AnswersAreHits : Bool → HitOf → Type 0
AnswersAreHits utf8 first =
    (res : List Re) (nfa : Automaton) (kind : MatchKind) (earliest : Bool) (x : Search) (pattern : Option ℕ)
    (slots : List (Option ℕ)) → IsNfaOf res nfa → is_utf8_empty nfa ≡ utf8 → IsLeftmostToTheEnd kind earliest x
    → IsAnswer nfa kind earliest x pattern slots → AreOfHit nfa.groups (first res nfa x) pattern slots

-- its match is that of the hit
abbrev pub MatchesAreHits : Bool → HitOf → Type 0
MatchesAreHits utf8 first =
    (res : List Re) (nfa : Automaton) (kind : MatchKind) (earliest : Bool) (x : Search) (found : Option Found)
    → IsNfaOf res nfa → is_utf8_empty nfa ≡ utf8 → IsLeftmostToTheEnd kind earliest x
    → IsFindAnswer nfa kind earliest x found → found ≡ found_of_hit (first res nfa x)

-- it finds something exactly if there is a hit
abbrev pub FindsHits : Bool → HitOf → Type 0
FindsHits utf8 first =
    (res : List Re) (nfa : Automaton) (kind : MatchKind) (earliest : Bool) (x : Search) (found : Bool)
    → IsNfaOf res nfa → is_utf8_empty nfa ≡ utf8 → IsLeftmostToTheEnd kind earliest x
    → IsBoolAnswer nfa kind earliest x found → found ≡ is_some (first res nfa x)

-- the matches of an iteration are those of all hits
abbrev pub MatchesAreAllHits : Bool → HitOf → Type 0
MatchesAreAllHits utf8 first =
    (res : List Re) (nfa : Automaton) (kind : MatchKind) (earliest : Bool) (x : Search) (ms : List Found)
    → IsNfaOf res nfa → is_utf8_empty nfa ≡ utf8 → IsLeftmostToTheEnd kind earliest x
    → AreMatches nfa kind earliest x ms → ms ≡ map found_at (all_of first res nfa x)

-- and its captures
abbrev pub RowsAreAllHits : Bool → HitOf → Type 0
RowsAreAllHits utf8 first =
    (res : List Re) (nfa : Automaton) (kind : MatchKind) (earliest : Bool) (x : Search) (rows : List Row)
    → IsNfaOf res nfa → is_utf8_empty nfa ≡ utf8 → IsLeftmostToTheEnd kind earliest x
    → AreRows nfa kind earliest x rows → rows ≡ map (row_of_hit nfa) (all_of first res nfa x)

-- what a search of an NFA that is made of texts requires, for `Claim` to hold
abbrev pub Mode : Type 1
Mode = Automaton → MatchKind → Bool → Search → Type 0 → Type 0

-- if a match may end anywhere, in a haystack that consists of bytes
abbrev pub InBytes : Mode
InBytes nfa kind earliest x Claim =
    is_utf8_empty nfa ≡ false → IsLeftmostToTheEnd kind earliest x → All (λ b. b < 256) x.haystack → Claim

-- in UTF-8 mode, in a `str`, from a boundary if the NFA binds the search to its start
abbrev pub InStr : Mode
InStr nfa kind earliest x Claim =
    nfa.utf8 ≡ true → IsLeftmostToTheEnd kind earliest x → IsUtf8 x.haystack → StartsOnBoundary nfa x → Claim

-- in UTF-8 mode, in a `str`, if the NFA finds matches from any start
abbrev pub InStrFromAnyStart : Mode
InStrFromAnyStart nfa kind earliest x Claim =
    nfa.utf8 ≡ true → FindsFromAnyStart nfa → IsLeftmostToTheEnd kind earliest x → IsUtf8 x.haystack → Claim

-- The laws of hits for texts: what is found in a mode is what the grammar reads in them.
abbrev pub TextsAreAnswered : Mode → HitOf → Type 0
TextsAreAnswered mode first =
    (syntax : Config) (texts : List (List ℕ)) (res : List Re) (nfa : Automaton) (kind : MatchKind) (earliest : Bool)
    (x : Search) (pattern : Option ℕ) (slots : List (Option ℕ)) → IsCompiled syntax texts nfa
    → AreMeant syntax texts res → mode nfa kind earliest x
    (IsAnswer nfa kind earliest x pattern slots → AreOfHit nfa.groups (first res nfa x) pattern slots)

abbrev pub TextsAreMatched : Mode → HitOf → Type 0
TextsAreMatched mode first =
    (syntax : Config) (texts : List (List ℕ)) (res : List Re) (nfa : Automaton) (kind : MatchKind) (earliest : Bool)
    (x : Search) (found : Option Found) → IsCompiled syntax texts nfa → AreMeant syntax texts res
    → mode nfa kind earliest x (IsFindAnswer nfa kind earliest x found → found ≡ found_of_hit (first res nfa x))

abbrev pub MatchesAreAllOfTexts : Mode → HitOf → Type 0
MatchesAreAllOfTexts mode first =
    (syntax : Config) (texts : List (List ℕ)) (res : List Re) (nfa : Automaton) (kind : MatchKind) (earliest : Bool)
    (x : Search) (ms : List Found) → IsCompiled syntax texts nfa → AreMeant syntax texts res
    → mode nfa kind earliest x (AreMatches nfa kind earliest x ms → ms ≡ map found_at (all_of first res nfa x))

abbrev pub RowsAreAllOfTexts : Mode → HitOf → Type 0
RowsAreAllOfTexts mode first =
    (syntax : Config) (texts : List (List ℕ)) (res : List Re) (nfa : Automaton) (kind : MatchKind) (earliest : Bool)
    (x : Search) (rows : List Row) → IsCompiled syntax texts nfa → AreMeant syntax texts res
    → mode nfa kind earliest x (AreRows nfa kind earliest x rows → rows ≡ map (row_of_hit nfa) (all_of first res nfa x))

-- a pattern that begins with `Start` matches only from the start of a haystack
abbrev pub BegunMatchAtStart : Type 0
BegunMatchAtStart =
    (haystack : List ℕ) (re : Re) (i j : ℕ) → begins_at_start re ≡ true → i ≤ length haystack
    → Matches haystack re i j → i ≡ 0

-- an NFA that finds matches from any start loses no hit, if it is made of patterns
abbrev pub PatternsLoseNoHit : Type 0
PatternsLoseNoHit =
    (res : List Re) (nfa : Automaton) (haystack : List ℕ) → IsNfaOf res nfa → FindsFromAnyStart nfa
    → LosesNoHit res nfa haystack

-- if it is made of texts; the haystack consists of bytes
abbrev pub TextsLoseNoHit : Type 0
TextsLoseNoHit =
    (syntax : Config) (texts : List (List ℕ)) (res : List Re) (nfa : Automaton) (haystack : List ℕ)
    → IsCompiled syntax texts nfa → AreMeant syntax texts res → FindsFromAnyStart nfa → All (λ b. b < 256) haystack
    → LosesNoHit res nfa haystack

-- The hit of a search is then that of one that is not bound to its start, in a mode of which `first` gives the hit.
abbrev pub HitsAreUnbound : (List Re → Bool → Search → Option PatternHit) → Type 0
HitsAreUnbound first =
    (res : List Re) (nfa : Automaton) (x : Search) → x.end ≡ length x.haystack → LosesNoHit res nfa x.haystack
    → first res (nfa.anchored == nfa.unanchored) x ≡ first res false x

-- and a pattern matches somewhere exactly if it does from a position of the span
abbrev pub MatchesAreUnbound : Type 0
MatchesAreUnbound =
    (res : List Re) (nfa : Automaton) (x : Search) (k : ℕ) → x.end ≡ length x.haystack
    → LosesNoHit res nfa x.haystack
    → PatternMatches res (nfa.anchored == nfa.unanchored) x k ↔ PatternMatches res false x k

-- The hit of one pattern, if none is lost, is what `find` of `regex_hir` gives, or `find_str` in a `str`.
abbrev pub OneHitIsFind : HitOf → (Re → List ℕ → ℕ → Option Match) → Type 0
OneHitIsFind first find =
    (re : Re) (nfa : Automaton) (x : Search) → LosesNoHit (re ∷ []) nfa x.haystack → x.anchored ≡ No
    → x.end ≡ length x.haystack → first (re ∷ []) nfa x ≡ option_map (hit_by 0) (find re x.haystack x.start)

-- All hits of it in a whole haystack are what `find_all` gives, or `find_all_str`.
abbrev pub AllHitsAreFindAll : HitOf → (Re → List ℕ → List Match) → Type 0
AllHitsAreFindAll first find_all =
    (re : Re) (nfa : Automaton) (x : Search) → LosesNoHit (re ∷ []) nfa x.haystack → x.anchored ≡ No
    → x.start ≡ 0 → x.end ≡ length x.haystack
    → all_of first (re ∷ []) nfa x ≡ map (hit_by 0) (find_all re x.haystack)

-- what a search of an NFA that is made of patterns requires: a match may start and end anywhere
abbrev pub Anywhere : Automaton → Search → Type 0 → Type 0
Anywhere nfa x Claim = is_utf8_empty nfa ≡ false → x.end ≡ length x.haystack → Claim

-- in ASCII, where no position splits a codepoint
abbrev pub InAscii : Automaton → Search → Type 0 → Type 0
InAscii nfa x Claim = x.end ≡ length x.haystack → All (λ b. b < 128) x.haystack → Claim

-- a search of any match kind finds something exactly if some pattern matches somewhere
abbrev pub FindsIfMatches : (Automaton → Search → Type 0 → Type 0) → Type 0
FindsIfMatches mode =
    (res : List Re) (nfa : Automaton) (kind : MatchKind) (earliest : Bool) (x : Search) (found : Bool)
    → IsNfaOf res nfa → mode nfa x (IsBoolAnswer nfa kind earliest x found
    → (found ≡ true) ↔ MatchesSomewhere res (nfa.anchored == nfa.unanchored) x)

-- and a search for slots answers a pattern exactly then
abbrev pub AnswersIfMatches : (Automaton → Search → Type 0 → Type 0) → Type 0
AnswersIfMatches mode =
    (res : List Re) (nfa : Automaton) (kind : MatchKind) (earliest : Bool) (x : Search) (pattern : Option ℕ)
    (slots : List (Option ℕ)) → IsNfaOf res nfa → mode nfa x (IsAnswer nfa kind earliest x pattern slots
    → (is_some pattern ≡ true) ↔ MatchesSomewhere res (nfa.anchored == nfa.unanchored) x)

-- Under `All`, without `earliest`, a set has afterwards exactly the patterns that it had, and each pattern below its
-- capacity that matches.
abbrev pub SetsHoldMatches : (Automaton → Search → Type 0 → Type 0) → Type 0
SetsHoldMatches mode =
    (res : List Re) (nfa : Automaton) (x : Search) (old new : List Bool)
    → IsNfaOf res nfa → mode nfa x (IsOverlapResult nfa x match_kind.All false old new
    → (k : ℕ) → HoldsPattern new k
    ↔ (HoldsPattern old k ⊎ ((k < length old) × PatternMatches res (nfa.anchored == nfa.unanchored) x k)))

-- In UTF-8 mode, too, a search finds something only if some pattern matches from a position of the span, and from its
-- start if the search is anchored. A search may find nothing although a pattern matches: after a match that splits a
-- codepoint it starts again one byte further on.
abbrev pub FindsOnlyMatches : Type 0
FindsOnlyMatches =
    (res : List Re) (nfa : Automaton) (kind : MatchKind) (earliest : Bool) (x : Search) (found : Bool)
    → IsNfaOf res nfa → x.end ≡ length x.haystack → IsBoolAnswer nfa kind earliest x found
    → found ≡ true → MatchesSomewhere res false x

abbrev pub AnswersOnlyMatches : Type 0
AnswersOnlyMatches =
    (res : List Re) (nfa : Automaton) (kind : MatchKind) (earliest : Bool) (x : Search) (pattern : Option ℕ)
    (slots : List (Option ℕ)) → IsNfaOf res nfa → x.end ≡ length x.haystack
    → IsAnswer nfa kind earliest x pattern slots → is_some pattern ≡ true → MatchesSomewhere res false x

-- In UTF-8 mode, too, and for each kind, a set gains only patterns that match.
abbrev pub SetsHoldOnlyMatches : Type 0
SetsHoldOnlyMatches =
    (res : List Re) (nfa : Automaton) (x : Search) (kind : MatchKind) (earliest : Bool) (old new : List Bool)
    → IsNfaOf res nfa → x.end ≡ length x.haystack → IsOverlapResult nfa x kind earliest old new
    → (k : ℕ) → HoldsPattern new k
    → HoldsPattern old k ⊎ ((k < length old) × PatternMatches res (nfa.anchored == nfa.unanchored) x k)

-- In a `str`, under `All` without `earliest`, the set gains each pattern that matches whole characters and matches from
-- a boundary.
abbrev pub SetsHoldMatchesOfStrs : Type 0
SetsHoldMatchesOfStrs =
    (res : List Re) (nfa : Automaton) (x : Search) (old new : List Bool)
    → IsNfaOf res nfa → x.end ≡ length x.haystack → IsUtf8 x.haystack
    → IsOverlapResult nfa x match_kind.All false old new
    → (k : ℕ) → k < length old → MatchesCharacters (slice_index_or res k empty)
    → (m : PatternMatches res (nfa.anchored == nfa.unanchored) x k) → IsBoundary x.haystack m.start
    → HoldsPattern new k

-- the groups of the NFA have the names that are read, without group 0
abbrev pub GroupsAreNamed : Type 0
GroupsAreNamed =
    (syntax : Config) (texts : List (List ℕ)) (names : List (List (Option (List ℕ)))) (nfa : Automaton)
    → IsCompiled syntax texts nfa → AreNamed syntax texts names → nfa.groups ≡ map (drop 1) names

-- the NFA has one list of groups for each text
abbrev pub GroupsAreCounted : Type 0
GroupsAreCounted =
    (syntax : Config) (texts : List (List ℕ)) (nfa : Automaton) → IsCompiled syntax texts nfa
    → length nfa.groups ≡ length texts

-- For an explicit group, captures of a hit give the positions that the match last wrote for it.
abbrev pub GroupsAreWritten : HitOf → Type 0
GroupsAreWritten first =
    (res : List Re) (nfa : Automaton) (x : Search) (h : PatternHit) (group : ℕ) → length nfa.groups ≡ length res
    → first res nfa x ≡ Some h → 1 ≤ group → group ≤ length (groups_at nfa.groups h.pattern)
    → group_span (captures_of nfa h) group ≡ written_span group (record { start = h.start; trace = h.trace })

-- The same for a name: for the first group with this name.
abbrev pub NamesAreWritten : HitOf → Type 0
NamesAreWritten first =
    (res : List Re) (nfa : Automaton) (x : Search) (h : PatternHit) (name : List ℕ) (group : ℕ)
    → length nfa.groups ≡ length res → first res nfa x ≡ Some h
    → group_named nfa.groups h.pattern name ≡ Some group
    → named_span (captures_of nfa h) name ≡ written_span group (record { start = h.start; trace = h.trace })

-- in a `str` the hit that ends on a boundary is the one that starts on a boundary
abbrev pub BoundaryHitsAreStrHits : Type 0
BoundaryHitsAreStrHits =
    (res : List Re) (nfa : Automaton) (x : Search) → All MatchesCharacters res → IsUtf8 x.haystack
    → StartsOnBoundary nfa x → boundary_hit res nfa x ≡ str_hit res nfa x

-- a tree that the parser returns under `utf8` matches whole characters
abbrev pub TreesMatchCharacters : Type 0
TreesMatchCharacters = (tree : Parsed) → IsWellFormed true tree.hir → MatchesCharacters (meaning tree.hir)
