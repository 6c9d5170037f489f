-- A text with a template, filled by captures, in place of its matches.
use Rattle.std.specs.Prelude.{◌≡◌, ◌≤◌, ℕ, false, List, [], ◌∷◌, ◌++◌, All, drop, length, map, slice_range, take}
use Rattle.nfa_search_base.specs.Common.{AllByRecursion, Search, whole, Captured, AreRows, HasGroups, CapturesInside, match_in, AreDisjoint, row_of}
use Rattle.nfa_choice.specs.ChoiceState.{ChoiceState, kind_in}
use Rattle.nfa_meta.specs.Gaps.{last_end}
use Rattle.nfa_meta.specs.Templates.{filled}
use Rattle.nfa_meta.specs.declared.interpolate.Part.{Part}

-- what comes for one match: the text from an offset to it, and the template filled by it
abbrev pub filled_one : List ℕ → List Part → ℕ → Captured → List ℕ
filled_one text parts from c = slice_range text from (match_in c).start ++ filled text c parts

-- the text from an offset on, with the template, filled by these captures, in place of the match of each
abbrev pub filled_from : List ℕ → List Part → ℕ → List Captured → List ℕ
filled_from text parts from [] = drop from text
filled_from text parts from (c ∷ cs) = filled_one text parts from c ++ filled_from text parts (match_in c).end cs

-- The matches of the first i of these captures were replaced, up to the offset: the output, and what comes for those
-- that are left, is what comes for all.
pub record HasFilled (text : List ℕ) (parts : List Part) (caught left : List Captured) (i from : ℕ)
    (output : List ℕ) : Type 0 where
  pub output_is : output ++ filled_from text parts from left ≡ filled_from text parts 0 caught
  pub first : i ≡ 0 → from ≡ 0
  pub within : from ≤ length text
  pub inside : AllByRecursion (CapturesInside (whole text)) left
  pub apart : AreDisjoint (whole text) (last_end i from) (map match_in left)

module _ (r : ChoiceState) (text : List ℕ) where
  -- these are the captures of all matches of the text
  pub record AreAllCaught (cs : List Captured) : Type 0 where
    pub rows : AreRows r.nfa (kind_in r) false (whole text) (map row_of cs)
    pub groups : All (HasGroups r.nfa) cs

  -- the output is the text with the template, filled by its captures, in place of each match
  pub record IsFilled (parts : List Part) (output : List ℕ) : Type 0 where
    pub caught : List Captured
    pub all : AreAllCaught caught
    pub output_is : output ≡ filled_from text parts 0 caught

  -- the output is the text with the template in place of its first matches: of as many as the limit, or of all, if
  -- there are fewer
  pub record IsFilledUpTo (limit : ℕ) (parts : List Part) (output : List ℕ) : Type 0 where
    pub caught : List Captured
    pub all : AreAllCaught caught
    pub output_is : output ≡ filled_from text parts 0 (take limit caught)

-- these are the captures of the first matches of the input: as many as the count, or all that there are
pub record AreFirstCaught (r : ChoiceState) (x : Search) (count : ℕ) (cs : List Captured) : Type 0 where
  pub all : List Captured
  pub rows : AreRows r.nfa (kind_in r) x.earliest x (map row_of all)
  pub groups : All (HasGroups r.nfa) all
  pub first : cs ≡ take count all
