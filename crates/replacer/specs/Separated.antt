-- What stands before, between and behind the matches of a text.
use Rattle.std.specs.Prelude.{ℕ, ◌≡◌, ◌+◌, ◌-◌, ◌≤◌, ◌⊎◌, ◌==◌, if◌then◌else◌, List, [], ◌∷◌, ◌++◌, drop, length, map, slice_range, take}
use Rattle.std.specs.Borrow.{Bor}
use Rattle.regex_search_core.specs.Found.{Found, found_of}
use Rattle.regex_search_core.specs.Search.{whole}
use Rattle.regex_search_core.specs.declared.search.Match.{Match}
use Rattle.nfa_engines.specs.Lists.{AreDisjoint}
use Rattle.nfa_compiler.specs.Patterns.{PatternHit, found_at}
use Rattle.nfa_meta.specs.ChoiceState.{ChoiceState}
use Rattle.nfa_meta.specs.Gaps.{AreAllOf, AreFirstOf, last_end}

-- the text of a match
abbrev pub match_text : List ℕ → Found → List ℕ
match_text haystack m = slice_range haystack m.start m.end

-- what stands from an offset on before, between and behind these matches
abbrev pub gaps : List ℕ → ℕ → List Found → List (List ℕ)
gaps haystack from [] = drop from haystack ∷ []
gaps haystack from (m ∷ ms) = slice_range haystack from m.start ∷ gaps haystack m.end ms

-- the fields of the text, if these are its hits
abbrev pub fields_by : List ℕ → List PatternHit → List (List ℕ)
fields_by text hits = gaps text 0 (map found_at hits)

-- its first fields, at most as many as the limit, with the rest of the text as the last one
abbrev pub first_fields_by : ℕ → List ℕ → List PatternHit → List (List ℕ)
first_fields_by limit text hits =
    if limit == 0 then [] else gaps text 0 (take (limit - 1) (map found_at hits))

-- fields and matches in turn, joined: the last field stands behind all matches
abbrev pub woven : List (List ℕ) → List (List ℕ) → List ℕ
woven [] matches = []
woven (field ∷ fields) [] = field
woven (field ∷ fields) (m ∷ matches) = field ++ (m ++ woven fields matches)

-- what the slices hold
abbrev pub texts : List (Bor (List ℕ)) → List (List ℕ)
texts slices = map (λ (s : Bor (List ℕ)). s.now) slices

module _ (haystack : List ℕ) where
  -- these fields are what stands around these matches; and fields and matches in turn, joined, are the haystack
  pub record AreAround (matches : List Found) (fields : List (List ℕ)) : Type 0 where
    pub fields_are : fields ≡ gaps haystack 0 matches
    pub joined : woven fields (map (match_text haystack) matches) ≡ haystack

  -- what stands around these matches from an offset on, and the matches, are the haystack from there
  abbrev pub IsJoined : ℕ → List Found → Type 0
  IsJoined from matches = woven (gaps haystack from matches) (map (match_text haystack) matches) ≡ drop from haystack

  -- These fields were cut out, up to this offset, which is where the last one ended of the first i matches: they and
  -- what stands around the matches that are left are what stands around all. So all joined are the haystack
  -- where those that are left are the rest of it.
  pub record HasCut (matches : List Match) (i from : ℕ) (fields : List (List ℕ)) : Type 0 where
    pub fields_are : fields ++ gaps haystack from (map found_of (drop i matches))
        ≡ gaps haystack 0 (map found_of matches)
    pub count : length fields ≡ i
    pub first : i ≡ 0 → from ≡ 0
    pub within : from ≤ length haystack
    pub apart : AreDisjoint (whole haystack) (last_end i from) (map found_of (drop i matches))
    pub joined : IsJoined from (map found_of (drop i matches)) → IsJoined 0 (map found_of matches)

  module _ (r : ChoiceState) where
    -- the fields are what stands around the matches of the haystack
    pub record IsSplit (fields : List (List ℕ)) : Type 0 where
      pub matches : List Found
      pub are : AreAllOf r haystack matches
      pub around : AreAround matches fields

    -- They are what stands around the first matches of it: of one less than the limit, or of all, if there are fewer.
    pub record IsSplitUpTo (limit : ℕ) (fields : List (List ℕ)) : Type 0 where
      pub matches : List Found
      pub first : AreFirstOf r haystack matches
      pub as_many : (length matches + 1 ≡ limit) ⊎ AreAllOf r haystack matches
      pub around : AreAround matches fields
