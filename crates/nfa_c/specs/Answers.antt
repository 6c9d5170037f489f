-- What a handle is made of and keeps, and what searches answer.
use Rattle.std.specs.Prelude.{IfSome, IsSomeAnd, List, None, Option, Some, false, get_or, is_some, length, true, ℕ, ℤ, ◌≡◌, ◌≤◌, ◌<◌, ◌-◌, ◌^◌}
use Rattle.regex_search_core.specs.Found.{Found, HalfFound}
use Rattle.regex_search_core.specs.Groups.{slot_count}
use Rattle.regex_search_core.specs.Search.{Search, whole}
use Rattle.nfa_paths.specs.Paths.{IsAnswer, IsFindAnswer, IsHalfAnswer}
use Rattle.nfa_search_base.specs.Lists.{IsInside}
use Rattle.nfa_choice.specs.ChoiceState.{ChoiceState, kind_in}
use Rattle.nfa_meta.specs.Built.{HasNotSearched, IsBuiltFrom, unsearched}
use Rattle.nfa_meta.specs.RegexState.{KeepsRegex}
use Rattle.nfa_meta.specs.declared.builder.Builder.{Builder}
use Rattle.nfa_c.specs.Codes.{code_of}
use Rattle.nfa_c.specs.declared.handle.Compiled.{Compiled}
use Rattle.nfa_c.specs.declared.search.NfaMatch.{NfaMatch}

-- a search of this range of the haystack, not anchored and not earliest
abbrev pub search_in : List ℕ → ℕ → ℕ → Search
search_in haystack start end = record (whole haystack) { start = start; end = end }

-- the same search, which may end as soon as a match is known
abbrev pub shortest_in : List ℕ → ℕ → ℕ → Search
shortest_in haystack start end = record (search_in haystack start end) { earliest = true }

-- the row has an element for each slot of the regex
abbrev pub HasRow : Compiled → Type 0
HasRow own = length own.row.items ≡ slot_count own.regex.choice.nfa.groups

-- the regex is what the builder makes of these texts, and has not searched yet
pub record IsMade (b : Builder) (texts : List (List ℕ)) (own : Compiled) : Type 0 where
  pub built : IsBuiltFrom b texts own.regex.choice.nfa
  pub engines : HasNotSearched b.config own.regex
  pub row : HasRow own

-- the regex is one for the same NFA with the same settings, and has not searched yet
pub record IsCopy (own copy : Compiled) : Type 0 where
  pub regex : copy.regex ≡ unsearched own.regex
  pub row : HasRow own → HasRow copy

-- what a search keeps
pub record KeepsCompiled (old new : Compiled) : Type 0 where
  pub regex : KeepsRegex old.regex new.regex
  pub row : HasRow old → HasRow new

-- a handle stays empty, or stays full and keeps what searches keep
abbrev pub Keeps : Option Compiled → Option Compiled → Type 0
Keeps None new = new ≡ None
Keeps (Some old) new = IsSomeAnd new (KeepsCompiled old)

-- the match as a value
abbrev pub found_in : NfaMatch → Found
found_in m = record { pattern = m.pattern; start = m.start; end = m.end }

-- the offset, or the greatest number for none
abbrev pub word_of : Option ℕ → ℕ
word_of None = 2 ^ 64 - 1
word_of (Some offset) = offset

-- the first words are those of the row, which has none after its end
abbrev pub AreFirstWords : ℕ → List (Option ℕ) → List ℕ → Type 0
AreFirstWords count row words = (k : ℕ) → k < count → get_or words k 0 ≡ word_of (get_or row k None)

-- so are all words
abbrev pub AreWords : List (Option ℕ) → List ℕ → Type 0
AreWords row words = AreFirstWords (length words) row words

-- What an export says of the search x by the engine c.
module _ (c : ChoiceState) (x : Search) where
  -- the code says whether there is a match, and this is the match
  pub record IsFound (code : ℤ) (m : NfaMatch) : Type 0 where
    pub found : Option Found
    pub answers : IsFindAnswer c.nfa (kind_in c) false x found
    pub code_is : code ≡ code_of (is_some found)
    pub match_is : IfSome found (λ f. found_in m ≡ f)
    pub inside : IfSome found (IsInside x)
    pub pattern : IfSome found (λ f. f.pattern < length c.nfa.patterns)

  -- the code says whether there is a match, and this is where one is known
  pub record IsShortest (code : ℤ) (offset : ℕ) : Type 0 where
    pub found : Option HalfFound
    pub answers : IsHalfAnswer c.nfa (kind_in c) true x found
    pub code_is : code ≡ code_of (is_some found)
    pub offset_is : IfSome found (λ f. f.offset ≡ offset)
    pub inside : IfSome found (λ f. (x.start ≤ f.offset) × (f.offset ≤ x.end))

  -- the code says whether there is a match, and the words are its slots in a row of this length
  pub record IsCaptured (room : ℕ) (code : ℤ) (words : List ℕ) : Type 0 where
    pub pattern : Option ℕ
    pub row : List (Option ℕ)
    pub answers : IsAnswer c.nfa (kind_in c) false x pattern row
    pub code_is : code ≡ code_of (is_some pattern)
    pub row_is : length row ≡ room
    pub words_are : AreWords row words
