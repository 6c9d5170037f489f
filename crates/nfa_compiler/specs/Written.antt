-- The syntax of texts, what a text is read as, and where patterns match.
use Rattle.std.specs.Prelude.{◌≡◌, ℕ, ◌≤◌, ◌<◌, ◌||◌, Bool, false, true, List, length, IsSomeAnd, IsUtf8, chars, if◌then◌else◌, slice_index_or, ⊤}
use Rattle.regex_hir.specs.Matches.{Matches}
use Rattle.regex_hir.specs.Re.{Re, empty}
use Rattle.regex_hir.specs.Text.{is_boundary}
use Rattle.regex_syntax.specs.Grammar.{read}
use Rattle.regex_syntax.specs.Same.{SameTree}
use Rattle.regex_syntax.specs.Verdict.{default_config}
use Rattle.regex_syntax.specs.declared.Config.{Config}
use Rattle.nfa_paths.specs.Common.{number_of, Search, is_anchored, Anchored, Pattern}
use Rattle.nfa_compiler.specs.declared.compiler.Compiler.{Compiler}

-- the syntax that a compiler parses texts with: its own, with the `utf8` of its configuration
abbrev pub syntax_of : Compiler → Config
syntax_of c = record c.syntax { utf8 = c.config.utf8 }

-- the default syntax, without UTF-8 mode
abbrev pub byte_syntax : Config
byte_syntax = record default_config { utf8 = false }

-- the grammar reads in the text a pattern that matches the same as this one
abbrev pub IsReadAs : Config → List ℕ → Re → Type 0
IsReadAs syntax text re = IsSomeAnd (read syntax (chars text)) (λ (found, names). SameTree found.value re)

-- the pattern matches the haystack from some position, in the textbook sense
pub record MatchesIn (haystack : List ℕ) (re : Re) : Type 0 where
  pub start : ℕ
  pub end : ℕ
  pub within : start ≤ length haystack
  pub matches : Matches haystack re start end

-- the same in a `str`, from a boundary
pub record MatchesInStr (haystack : List ℕ) (re : Re) : Type 0 where
  pub start : ℕ
  pub end : ℕ
  pub within : start ≤ length haystack
  pub boundary : is_boundary haystack start ≡ true
  pub matches : Matches haystack re start end

-- In a `str` the pattern matches whole characters: a match that starts on a boundary ends on one, and one that starts
-- inside a codepoint is empty.
pub record MatchesCharacters (re : Re) : Type 0 where
  pub whole : (haystack : List ℕ) (i j : ℕ) → IsUtf8 haystack → Matches haystack re i j
      → is_boundary haystack i ≡ true → is_boundary haystack j ≡ true
  pub split : (haystack : List ℕ) (i j : ℕ) → IsUtf8 haystack → Matches haystack re i j
      → is_boundary haystack i ≡ false → j ≡ i

-- a search in this mode tries the pattern of this number
abbrev pub IsTried : Anchored → ℕ → Type 0
IsTried (Pattern pattern) k = number_of pattern ≡ k
IsTried _ k = ⊤

-- The search tries pattern k, and the pattern matches from a position where the search may start. `bound` says that
-- each search is bound to its start.
pub record PatternMatches (res : List Re) (bound : Bool) (x : Search) (k : ℕ) : Type 0 where
  pub start : ℕ
  pub end : ℕ
  pub known : k < length res
  pub tried : IsTried x.anchored k
  pub from : x.start ≤ start
  pub to : start ≤ (if is_anchored x.anchored || bound then x.start else x.end)
  pub inside : x.start ≤ x.end
  pub matches : Matches x.haystack (slice_index_or res k empty) start end

-- some pattern does
pub record MatchesSomewhere (res : List Re) (bound : Bool) (x : Search) : Type 0 where
  pub pattern : ℕ
  pub matches : PatternMatches res bound x pattern
