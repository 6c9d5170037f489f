-- All hits of patterns in a text, in the words of the reference matcher; and what this program does not replace in a
-- template.
use Rattle.std.specs.Prelude.{ℕ, ◌+◌, ◌≡◌, ◌⊎◌, Bool, false, IsUtf8, List, [], ◌∷◌, drop, length, map, Option, Some, if◌then◌else◌, ◌<◌, ◌≤◌, slice_index}
use Rattle.nfa_compiler.specs.Common.{slot_count, whole, Captured, LeftmostFirst, find_all_str, Re, default_config, default_flags, Config, hits_from, FindsFromAnyStart, expected_on_boundary, AreMeant, AreNamed, IsCompiled, PatternHit, expected, hit_by, slots_of}
use Rattle.nfa_meta.specs.ChoiceState.{ChoiceState, kind_in}
use Rattle.replacer.specs.Fillings.{Groups}

-- the texts of the patterns, and whether letters match in either case
pub record Sought : Type 0 where
  pub texts : List (List ℕ)
  pub ignore_case : Bool

-- The syntax of the patterns: the default one, in which a pattern matches characters of a text only. If letters match
-- in either case, the flag `i` is set.
abbrev pub syntax_of : Sought → Config
syntax_of sought = record default_config { flags = record default_flags { case_insensitive = sought.ignore_case } }

-- the grammar reads each `re` in the pattern at its place
abbrev pub Mean : Sought → List Re → Type 0
Mean sought res = AreMeant (syntax_of sought) sought.texts res

-- the grammar reads these names of groups in the pattern at their place, from group 0 on
abbrev pub HaveNames : Sought → List (List (Option (List ℕ))) → Type 0
HaveNames sought names = AreNamed (syntax_of sought) sought.texts names

-- The regex searches for these patterns, by leftmost first, and from any place.
pub record IsSearchOf (sought : Sought) (r : ChoiceState) : Type 0 where
  pub compiled : IsCompiled (syntax_of sought) sought.texts r.nfa
  pub leftmost : kind_in r ≡ LeftmostFirst
  pub free : FindsFromAnyStart r.nfa

-- the regex searches for the patterns, and they mean these
pub record SearchesFor (sought : Sought) (res : List Re) (r : ChoiceState) : Type 0 where
  pub search : IsSearchOf sought r
  pub meant : Mean sought res

module _ (res : List Re) (empty : Bool) (text : List ℕ) where
  -- The first hit from this place on: of the first of the patterns that match there. `empty` says that one may match
  -- the empty string. Then a match that splits a codepoint does not count.
  abbrev pub next_hit : ℕ → Option PatternHit
  next_hit i =
      if empty then expected_on_boundary res false (record (whole text) { start = i })
      else expected res false (record (whole text) { start = i })

  -- all hits, from left to right
  abbrev pub hits_in : List PatternHit
  hits_in = hits_from next_hit (length text + 1) (next_hit 0)

  -- These are all hits in the text. If it is UTF-8, and there is one pattern, they are those that `find_all_str` of
  -- `regex_hir` gives, too.
  abbrev pub AreAllHits : List PatternHit → Type 0
  AreAllHits hits = (hits ≡ hits_in) ⊎ (IsUtf8 text
      × ((re : Re) × (res ≡ re ∷ []) × (hits ≡ map (hit_by 0) (find_all_str re text))))

-- the function gives all hits of each text
abbrev pub AreHitsOf : List Re → Bool → (List ℕ → List PatternHit) → Type 0
AreHitsOf res empty hits = (text : List ℕ) → AreAllHits res empty text (hits text)

-- the explicit groups of patterns whose groups have these names, from group 0 on
abbrev pub groups_named_by : List (List (Option (List ℕ))) → Groups
groups_named_by names = map (drop 1) names

-- the captures of a hit
abbrev pub captured_by : Groups → PatternHit → Captured
captured_by groups h =
    record { groups = groups; pattern = Some h.pattern; slots = slots_of groups (slot_count groups) (Some h) }

-- a digit
abbrev pub IsDigit : ℕ → Type 0
IsDigit byte = (48 ≤ byte) × (byte ≤ 57)

-- there is an `&`, or a backslash before a digit
abbrev pub IsForeign : List ℕ → ℕ → Type 0
IsForeign template at =
    (slice_index template at ≡ 38)
    ⊎ ((slice_index template at ≡ 92) × IsDigit (slice_index template (at + 1)))

-- there is one somewhere in the template
pub record HasForeign (template : List ℕ) : Type 0 where
  pub at : ℕ
  pub within : at < length template
  pub foreign : IsForeign template at

-- there is none up to this offset
abbrev pub HasNoForeign : List ℕ → ℕ → Type 0
HasNoForeign template end = (at : ℕ) → at < end → ¬ IsForeign template at
