-- The errors of texts, and what is printed of them: the line of a text in which a span starts, and marks under the
-- span.
use Rattle.std.specs.Prelude.{◌≡◌, ℕ, ◌+◌, ◌<◌, ◌≤◌, All, List, [], length, slice_index_or, ⊤, string_bytes, ◌-◌, ◌||◌, ◌++◌, ◌∷◌, codes, drop, if◌then◌else◌, max, nat_lt, nat_le, replicate, take, flat_map, ◌==◌}
use Rattle.regex_hir.specs.Re.{Re, empty}
use Rattle.regex_nfa.specs.Sizes.{table_bytes}
use Rattle.regex_nfa.specs.declared.nfa.Nfa.{Nfa}
use Rattle.regex_compile.specs.Implements.{Implements}
use Rattle.regex_syntax.specs.declared.Config.{Config}
use Rattle.regex_syntax.specs.declared.Parsed.{Parsed}
use Rattle.nfa_paths.specs.Common.{decimal, AllZip, after_last, before_first, sum_by, number_of}
use Rattle.nfa_compiler.specs.Compiled.{IsTreeOf, res_of}
use Rattle.nfa_compiler.specs.declared.block.Site.{Site}
use Rattle.nfa_compiler.specs.declared.error.CompileError.{CompileError}
use Rattle.nfa_compiler.specs.declared.error.CompileError.TheVariants.{Memory, Syntax, TooBig, Tree, TooManyGroups, TooManyPatterns, TooManyStates}
use Rattle.nfa_compiler.specs.declared.syntax_error.SyntaxError.{SyntaxError}

-- the error is that of this pattern's text, read by this syntax
pub record IsRejection (syntax : Config) (index : ℕ) (text : List ℕ) (e : SyntaxError) : Type 0 where
  pub pattern : e.pattern ≡ index
  pub text_is : string_bytes e.text ≡ text
  pub syntax_is : e.syntax ≡ syntax

-- allocation failed, or a text was refused with an error for which P holds
abbrev pub IsMemoryOr : (SyntaxError → Type 0) → CompileError → Type 0
IsMemoryOr P Memory = ⊤
IsMemoryOr P (Syntax e) = P e
IsMemoryOr P _ = ⊥

-- a syntax error is that of one of these texts, read by this syntax
abbrev pub IsOfOneText : Config → List (List ℕ) → CompileError → Type 0
IsOfOneText syntax texts (Syntax e) =
    (e.pattern < length texts) × IsRejection syntax e.pattern (slice_index_or texts e.pattern []) e
IsOfOneText syntax texts _ = ⊤

-- the error is not a syntax error
abbrev pub IsOfNoText : CompileError → Type 0
IsOfNoText (Syntax e) = ⊥
IsOfNoText _ = ⊤

-- some NFA of the pattern has tables within the size limit, but for the two states with which each table begins
pub record FitsIn (limit : ℕ) (re : Re) : Type 0 where
  pub nfa : Nfa
  pub implements : Implements nfa re
  pub small : table_bytes nfa ≤ limit + 24

-- the same of each pattern that is read in these texts
pub record TextsFitIn (limit : ℕ) (syntax : Config) (texts : List (List ℕ)) : Type 0 where
  pub trees : List Parsed
  pub read : AllZip (IsTreeOf syntax) texts trees
  pub fit : All (FitsIn limit) (res_of trees)

-- The pattern of this number is one of these. Each one before it was compiled within the size limit.
pub record IsFirstTooBig (limit : ℕ) (res : List Re) (pattern : ℕ) : Type 0 where
  pub within : pattern < length res
  pub earlier : (k : ℕ) → k < pattern → FitsIn limit (slice_index_or res k empty)

-- An error of one pattern has the number of one of these, the first one to fail. `TooBig` also has the size limit.
abbrev pub NamesPattern : ℕ → List Re → CompileError → Type 0
NamesPattern limit res (TooBig pattern found) = (found ≡ limit) × IsFirstTooBig limit res pattern
NamesPattern limit res (Tree pattern) = IsFirstTooBig limit res pattern
NamesPattern limit res _ = ⊤

-- the same for the patterns that are read in these texts, all of which are patterns
pub record IsFirstTooBigOf (syntax : Config) (limit : ℕ) (texts : List (List ℕ)) (pattern : ℕ) : Type 0 where
  pub trees : List Parsed
  pub read : AllZip (IsTreeOf syntax) texts trees
  pub first : IsFirstTooBig limit (res_of trees) pattern

-- the same for an error of a pattern that is read in these texts
abbrev pub NamesText : Config → ℕ → List (List ℕ) → CompileError → Type 0
NamesText syntax limit texts (TooBig pattern found) = (found ≡ limit) × IsFirstTooBigOf syntax limit texts pattern
NamesText syntax limit texts (Tree pattern) = IsFirstTooBigOf syntax limit texts pattern
NamesText syntax limit texts _ = ⊤

-- not a syntax error; an error of one pattern has this number, and `TooBig` also this size limit
abbrev pub IsOfPattern : ℕ → ℕ → CompileError → Type 0
IsOfPattern limit index (Syntax e) = ⊥
IsOfPattern limit index (TooBig pattern found) = (found ≡ limit) × (pattern ≡ index)
IsOfPattern limit index (Tree pattern) = pattern ≡ index
IsOfPattern limit index _ = ⊤

-- neither a syntax error nor `TooBig`; the error `Tree` has the number of the pattern at this site
abbrev pub IsOfSite : Site → CompileError → Type 0
IsOfSite site (Syntax e) = ⊥
IsOfSite site (TooBig pattern limit) = ⊥
IsOfSite site (Tree pattern) = pattern ≡ number_of site.pattern
IsOfSite site _ = ⊤

-- it is an error of no pattern
abbrev pub IsOfNoPattern : CompileError → Type 0
IsOfNoPattern (Syntax e) = ⊥
IsOfNoPattern (TooBig pattern limit) = ⊥
IsOfNoPattern (Tree pattern) = ⊥
IsOfNoPattern _ = ⊤

-- the text before its first line feed, and after its last one
abbrev pub first_line : List ℕ → List ℕ
first_line text = before_first (λ b. b == 10) text

abbrev pub last_line : List ℕ → List ℕ
last_line text = after_last (λ b. b == 10) text

-- 1 for a byte with which a character starts
abbrev pub starts_char : ℕ → ℕ
starts_char b = if nat_lt b 128 || nat_le 192 b then 1 else 0

-- a tab for a tab, and a space for each other byte with which a character starts
abbrev pub blank_byte : ℕ → List ℕ
blank_byte b = if b == 9 then 9 ∷ [] else if nat_lt b 128 || nat_le 192 b then 32 ∷ [] else []

-- the line up to the span and from it on, and below it blanks and marks
abbrev pub excerpt_text : List ℕ → List ℕ → ℕ → List ℕ
excerpt_text before rest marks =
    codes "    " ++ before ++ rest ++ codes "\n    " ++ flat_map blank_byte before ++ replicate marks 94

-- the span, the reason, and the excerpt of the text for the span
abbrev pub place_text : SyntaxError → List ℕ
place_text e =
    let text = string_bytes e.text in
    let rest = first_line (drop e.span.start text) in
    codes "at " ++ decimal e.span.start ++ codes ".." ++ decimal e.span.end ++ codes ": " ++ e.reason.now ++ codes "\n"
    ++ excerpt_text (last_line (take e.span.start text)) rest
    (max 1 (sum_by starts_char (take (e.span.end - e.span.start) rest)))

-- before these the number of the pattern
abbrev pub syntax_error_text : SyntaxError → List ℕ
syntax_error_text e = codes "pattern " ++ decimal e.pattern ++ codes ", " ++ place_text e

-- an error with the number of its pattern, if it has one
abbrev pub compile_error_text : CompileError → List ℕ
compile_error_text Memory = codes "out of memory"
compile_error_text (Syntax e) = syntax_error_text e
compile_error_text (TooBig pattern limit) =
    codes "pattern " ++ decimal pattern ++ codes " exceeds the size limit of " ++ decimal limit ++ codes " bytes"
compile_error_text (Tree pattern) =
    codes "the tree of pattern " ++ decimal pattern ++ codes " is not one that a parser returns"
compile_error_text TooManyStates = codes "the patterns need more than 2147483647 states"
compile_error_text TooManyPatterns = codes "there are more than 2147483647 patterns"
compile_error_text TooManyGroups = codes "the groups need more than 2147483646 slots"

-- the same without the number, for the only pattern of a caller
abbrev pub only_pattern_text : CompileError → List ℕ
only_pattern_text Memory = codes "out of memory"
only_pattern_text (Syntax e) = place_text e
only_pattern_text (TooBig pattern limit) =
    codes "the pattern exceeds the size limit of " ++ decimal limit ++ codes " bytes"
only_pattern_text (Tree pattern) = codes "the tree of the pattern is not one that a parser returns"
only_pattern_text TooManyStates = codes "the pattern needs more than 2147483647 states"
only_pattern_text TooManyPatterns = codes "there are more than 2147483647 patterns"
only_pattern_text TooManyGroups = codes "the groups need more than 2147483646 slots"
