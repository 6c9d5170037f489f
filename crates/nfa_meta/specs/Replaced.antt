-- A text with other bytes in place of its matches.
use Rattle.std.specs.Prelude.{◌≡◌, ◌⊎◌, ◌≤◌, ℕ, List, [], ◌∷◌, ◌++◌, drop, length, map, slice_range}
use Rattle.nfa_search_base.specs.Common.{Found, found_of, whole, Match, AreDisjoint}
use Rattle.nfa_choice.specs.ChoiceState.{ChoiceState}
use Rattle.nfa_meta.specs.Gaps.{AreAllOf, AreFirstOf, last_end}

-- the text from an offset on, with these bytes in place of each of these matches
abbrev pub replaced : List ℕ → List ℕ → ℕ → List Found → List ℕ
replaced text bytes from [] = drop from text
replaced text bytes from (m ∷ ms) = slice_range text from m.start ++ (bytes ++ replaced text bytes m.end ms)

-- The first i matches were replaced, up to the offset: the output, and what comes for the other matches, is what comes
-- for all.
pub record HasReplaced (text bytes : List ℕ) (matches : List Match) (i from : ℕ) (output : List ℕ) : Type 0 where
  pub output_is : output ++ replaced text bytes from (map found_of (drop i matches))
      ≡ replaced text bytes 0 (map found_of matches)
  pub first : i ≡ 0 → from ≡ 0
  pub within : from ≤ length text
  pub apart : AreDisjoint (whole text) (last_end i from) (map found_of (drop i matches))

module _ (r : ChoiceState) (text : List ℕ) where
  -- the output is the text with these bytes in place of each match
  pub record IsReplaced (bytes output : List ℕ) : Type 0 where
    pub matches : List Found
    pub all : AreAllOf r text matches
    pub output_is : output ≡ replaced text bytes 0 matches

  -- the output is the text with these bytes in place of its first matches: of as many as the limit, or of all, if there
  -- are fewer
  pub record IsReplacedUpTo (limit : ℕ) (bytes output : List ℕ) : Type 0 where
    pub matches : List Found
    pub first : AreFirstOf r text matches
    pub few : length matches ≤ limit
    pub as_many : (length matches ≡ limit) ⊎ AreAllOf r text matches
    pub output_is : output ≡ replaced text bytes 0 matches
