-- What the handle of a set is made of and keeps, and what exports say of it.
use Rattle.std.specs.Prelude.{Bool, IsSomeAnd, List, None, Option, Some, codes, false, get_or, if◌then◌else◌, length, slice_index_or, ℕ, ℤ, ◌<◌, ◌≡◌, ◌≢◌, true}
use Rattle.regex_search_core.specs.PatternSets.{size_of_set}
use Rattle.regex_search_core.specs.Search.{Search}
use Rattle.regex_search_core.specs.declared.search.MatchKind.TheVariants.{All}
use Rattle.nfa_paths.specs.Overlaps.{IsOverlapResult}
use Rattle.nfa_paths.specs.Paths.{IsBoolAnswer}
use Rattle.nfa_compiler.specs.Rejected.{compile_error_text}
use Rattle.nfa_meta.specs.Built.{IsBuiltFrom, IsErrorOf}
use Rattle.nfa_meta.specs.RegexSets.{IsNewSet, KeepsSet as KeepsRegexSet, SetState, no_pattern}
use Rattle.nfa_meta.specs.declared.builder.Builder.{Builder}
use Rattle.nfa_c.specs.Codes.{code_of, memory_code, over, pattern_code, range_code, utf8_code}
use Rattle.nfa_c.specs.Texts.{AreEnds, AreTexts, AreUtf8, texts_in}
use Rattle.nfa_c.specs.declared.set_compile.SetFailure.{SetFailure}
use Rattle.nfa_c.specs.declared.set_compile.SetFailure.TheVariants as failure
use Rattle.nfa_c.specs.declared.set_handle.CompiledSet.{CompiledSet}

-- the set is what the builder makes of these texts, and has not searched yet
pub record IsMadeSet (b : Builder) (texts : List (List ℕ)) (own : CompiledSet) : Type 0 where
  pub built : IsBuiltFrom b texts own.set.engine.nfa
  pub engines : IsNewSet b.config own.set

-- the set is one for the same NFA with the same settings
pub record IsCopySet (own copy : CompiledSet) : Type 0 where
  pub nfa : copy.set.engine.nfa ≡ own.set.engine.nfa
  pub config : copy.set.engine.config ≡ own.set.engine.config

-- a handle stays empty, or stays full and keeps what searches keep
abbrev pub KeepsSet : Option CompiledSet → Option CompiledSet → Type 0
KeepsSet None new = new ≡ None
KeepsSet (Some old) new = IsSomeAnd new (λ own. KeepsRegexSet old.set own.set)

-- the code of a failure
abbrev pub set_failure_code : SetFailure → ℤ
set_failure_code failure.Memory = memory_code
set_failure_code failure.Range = range_code
set_failure_code failure.Utf8 = utf8_code
set_failure_code (failure.Patterns error) = pattern_code

-- what is said of a failure
abbrev pub set_failure_text : SetFailure → List ℕ
set_failure_text failure.Memory = codes "out of memory"
set_failure_text failure.Range = codes "the ends of the patterns do not rise, or are past the end of their text"
set_failure_text failure.Utf8 = codes "a pattern is not UTF-8"
set_failure_text (failure.Patterns error) = compile_error_text error

-- why no set is made of the texts: their ends do not rise or are past the end, one is not UTF-8, memory is refused, or
-- the builder refuses them with the error
abbrev pub IsWhyNoSet : Builder → List ℕ → List ℕ → SetFailure → Type 0
IsWhyNoSet b text ends failure.Range = AreEnds text ends → ⊥
IsWhyNoSet b text ends failure.Utf8 = AreEnds text ends × (AreUtf8 (texts_in text ends) → ⊥)
IsWhyNoSet b text ends failure.Memory = AreTexts text ends
IsWhyNoSet b text ends (failure.Patterns error) = AreTexts text ends × IsErrorOf b (texts_in text ends) error

-- the message says what the failure is, or that memory was refused for the words, and has `count` bytes
pub record SaysSetFailure (f : SetFailure) (count : ℕ) (old new : List ℕ) : Type 0 where
  pub cause : SetFailure
  pub follows : (b : Builder) (text ends : List ℕ) → IsWhyNoSet b text ends f → IsWhyNoSet b text ends cause
  pub count_is : count ≡ length (set_failure_text cause)
  pub message : new ≡ over (set_failure_text cause) old

module _ (b : Builder) (text ends : List ℕ) where
  -- the code says why no set is made of the texts
  pub record SaysWhyNoSet (code : ℤ) : Type 0 where
    pub cause : SetFailure
    pub why : IsWhyNoSet b text ends cause
    pub code_is : code ≡ set_failure_code cause

  -- the message says why no set is made of the texts, and has `count` bytes
  pub record TellsWhyNoSet (count : ℕ) (old new : List ℕ) : Type 0 where
    pub cause : SetFailure
    pub why : IsWhyNoSet b text ends cause
    pub count_is : count ≡ length (set_failure_text cause)
    pub message : new ≡ over (set_failure_text cause) old

-- the first bytes are 1 for each pattern that matches, and otherwise 0
abbrev pub AreFirstMarks : ℕ → List Bool → List ℕ → Type 0
AreFirstMarks count found marks =
    (k : ℕ) → k < count → get_or marks k 0 ≡ (if slice_index_or found k false then 1 else 0)

-- so are all bytes
abbrev pub AreMarks : List Bool → List ℕ → Type 0
AreMarks found marks = AreFirstMarks (length marks) found marks

-- the code says whether one of the patterns matches
pub record SaysWhetherAny (found : List Bool) (code : ℤ) : Type 0 where
  pub none : size_of_set found ≡ 0 → code ≡ code_of false
  pub some : size_of_set found ≢ 0 → code ≡ code_of true

-- What an export says of the search x by the set s.
module _ (s : SetState) (x : Search) where
  -- the code says whether one of the patterns matches
  pub record IsSetAnswer (code : ℤ) : Type 0 where
    pub found : Bool
    pub answers : IsBoolAnswer s.engine.nfa All false x found
    pub code_is : code ≡ code_of found

  -- the bytes say which patterns match, and the code whether one does
  pub record AreMatching (code : ℤ) (marks : List ℕ) : Type 0 where
    pub found : List Bool
    pub answers : IsOverlapResult s.engine.nfa x All x.earliest (no_pattern s.engine.nfa) found
    pub code_says : SaysWhetherAny found code
    pub marks_are : AreMarks found marks
