-- What patterns mean, what they find in a line, in the words of the reference matcher, and why they are refused.
use Rattle.std.specs.Prelude.{◌≡◌, ℕ, ◌+◌, ◌<◌, ◌⊎◌, Bool, false, List, [], ◌∷◌, length, map, None, Option, Some, is_some, chars, codes, encode_utf8_all, if◌then◌else◌, slice_index_or, ⊤, ◌==◌}
use Rattle.nfa_choice.specs.ChoiceState.{ChoiceState}
pub use Rattle.nfa_compiler.specs.Common.{Re}
use Rattle.nfa_compiler.specs.Common.{AllZip, Found, whole, Automaton, is_utf8_empty, alt_all, cat_all, meaning, look, Start, End, WordStartHalfUnicode, WordEndHalfUnicode, SameCaptures, default_flags, escaped_text, Config, Parsed, hits_from, FindsFromAnyStart, IsMeant, IsNfaOf, IsOfNoText, IsRejection, NamesPattern, PatternHit, compile_error_text, expected, found_at, byte_syntax, only_pattern_text, res_of}
use Rattle.nfa_compiler.specs.declared.error.CompileError.{CompileError}
use Rattle.nfa_compiler.specs.declared.error.CompileError.TheVariants.{Syntax}
use Rattle.regex_hir.specs.declared.look.Look.TheVariants.{WordEndUnicode, WordStartUnicode}
use Rattle.grep_options.specs.Texts.{options_error_text}
use Rattle.grep_options.specs.declared.options.Bounds.{Bounds}
use Rattle.grep_options.specs.declared.options.Bounds.TheVariants.{Anywhere, Words, Line}
pub use Rattle.grep_options.specs.declared.options.Options.{Options}
use Rattle.nfa_grep.specs.declared.fault.Fault.{Fault}
use Rattle.nfa_grep.specs.declared.fault.Fault.TheVariants as fault

-- how the grammar reads a text: patterns may match bytes that are not text, and with `ignore_case` the flag `i` is set
abbrev pub syntax_of : Options → Config
syntax_of options =
    record byte_syntax { flags = record default_flags { case_insensitive = options.ignore_case } }

-- the text that the grammar reads: with `fixed`, each character with a meaning of its own has a backslash before it
abbrev pub pattern_text : Options → List ℕ → List ℕ
pattern_text options text = if options.fixed then encode_utf8_all (escaped_text (chars text)) else text

-- No letter, digit or underscore is before this place. Bytes that are not text are none, but the first assertion holds
-- only at the start and after text; so the second one holds if such a character comes next.
abbrev pub word_start : Re
word_start = alt_all (look WordStartHalfUnicode ∷ look WordStartUnicode ∷ [])

-- No letter, digit or underscore is after this place. Bytes that are not text are none, but the first assertion holds
-- only at the end and before text; so the second one holds if such a character came last.
abbrev pub word_end : Re
word_end = alt_all (look WordEndHalfUnicode ∷ look WordEndUnicode ∷ [])

-- The pattern with what bounds its matches. As grep says, a match is a word if no letter, digit or underscore is next
-- to it. Other matches of the pattern at the same place are tried until one is such a match.
abbrev pub bounded : Bounds → Re → Re
bounded Anywhere re = re
bounded Words re = cat_all (word_start ∷ re ∷ word_end ∷ [])
bounded Line re = cat_all (look Start ∷ re ∷ look End ∷ [])

-- the text means this pattern
pub record IsPattern (options : Options) (text : List ℕ) (re : Re) : Type 0 where
  pub inner : Re
  pub reads : IsMeant (syntax_of options) (pattern_text options text) inner
  pub is_bounded : re ≡ bounded options.bounds inner

-- each text means the pattern at its place
abbrev pub ArePatterns : Options → List (List ℕ) → List Re → Type 0
ArePatterns options texts res = AllZip (IsPattern options) texts res

-- the tree matches as what the text means
abbrev pub IsReadFrom : Options → List ℕ → Parsed → Type 0
IsReadFrom options text tree = (re : Re) → IsPattern options text re → SameCaptures (meaning tree.hir) re

-- the NFA is made of these patterns, or of one pattern that tries them in order
abbrev pub IsOfAll : List Re → Automaton → Type 0
IsOfAll res nfa = IsNfaOf res nfa ⊎ IsNfaOf (alt_all res ∷ []) nfa

-- the NFA is made in this way of patterns that match as what the texts mean
pub record IsBuilt (Made : List Re → Automaton → Type 0) (options : Options) (texts : List (List ℕ)) (nfa : Automaton)
    : Type 0 where
  pub trees : List Re
  pub made : Made trees nfa
  pub same : (res : List Re) → ArePatterns options texts res → AllZip SameCaptures trees res

-- The engine searches for such patterns, leftmost first. It loses no empty match between the bytes of a character, and
-- no match because of where it starts.
pub record IsSearched (options : Options) (texts : List (List ℕ)) (regex : ChoiceState) : Type 0 where
  pub built : IsBuilt IsOfAll options texts regex.nfa
  pub anywhere : is_utf8_empty regex.nfa ≡ false
  pub free : FindsFromAnyStart regex.nfa
  pub leftmost : regex.match_kind ≡ None

-- the first hit that starts at an offset or after it: of the first of the patterns that matches there
abbrev pub hit_from : List Re → List ℕ → ℕ → Option PatternHit
hit_from res text i = expected res false (record (whole text) { start = i })

-- whether some pattern matches somewhere in the text
abbrev pub is_found : List Re → List ℕ → Bool
is_found res text = is_some (hit_from res text 0)

-- where all hits in the text are, from left to right
abbrev pub all_found : List Re → List ℕ → List Found
all_found res text = map found_at (hits_from (hit_from res text) (length text + 1) (hit_from res text 0))

-- where a match starts and ends
abbrev pub span_of : Found → ℕ × ℕ
span_of m = (m.start, m.end)

-- for each of the patterns, whether it matches somewhere in the text
abbrev pub which_found : List Re → List ℕ → List Bool
which_found res text = map (λ re. is_found (re ∷ []) text) res

-- what a search of lines is asked: the texts of the patterns, and the options
pub record Grepping : Type 0 where
  pub patterns : List (List ℕ)
  pub options : Options

-- these are what the texts mean
abbrev pub Mean : Grepping → List Re → Type 0
Mean grep res = ArePatterns grep.options grep.patterns res

-- the error, with the number of its pattern if there are several
abbrev pub described : ℕ → CompileError → Fault
described pattern_len error =
    if pattern_len == 1 then fault.OnlyPattern (record { 0 = error }) else fault.Pattern error

-- what is said of a fault, if it does not depend on the system
abbrev pub fault_text : Fault → Option (List ℕ)
fault_text fault.Memory = Some (codes "out of memory")
fault_text (fault.Options error) = options_error_text error
fault_text (fault.OnlyPattern error) = Some (only_pattern_text error.0)
fault_text (fault.Pattern error) = Some (compile_error_text error)
fault_text _ = None

-- this many patterns were refused by an error of which this holds, or allocation failed
abbrev pub IsRefusalBy : (CompileError → Type 0) → ℕ → Fault → Type 0
IsRefusalBy Q pattern_len (fault.OnlyPattern error) = (pattern_len ≡ 1) × Q error.0
IsRefusalBy Q pattern_len (fault.Pattern error) = ((pattern_len == 1) ≡ false) × Q error
IsRefusalBy Q pattern_len fault.Memory = ⊤
IsRefusalBy Q pattern_len _ = ⊥

-- The error is not a syntax error. If it names a pattern, that is the first one to fail, each one before it is within
-- the limit, and an error of size has the limit of 10 MiB for the tables of one.
abbrev pub IsOfTrees : List Re → CompileError → Type 0
IsOfTrees res error = NamesPattern 10485760 res error × IsOfNoText error

-- the patterns were refused by such an error, or allocation failed
abbrev pub IsTreeRefusal : ℕ → List Re → Fault → Type 0
IsTreeRefusal pattern_len res fault = IsRefusalBy (IsOfTrees res) pattern_len fault

-- the error is a syntax error of one of these texts
abbrev pub IsOfText : Options → List (List ℕ) → CompileError → Type 0
IsOfText options texts (Syntax e) =
    (e.pattern < length texts) × IsRejection (syntax_of options) e.pattern (slice_index_or texts e.pattern []) e
IsOfText options texts _ = ⊥

-- the patterns were refused by such an error, or allocation failed
abbrev pub IsTextRefusal : Options → List (List ℕ) → Fault → Type 0
IsTextRefusal options texts fault = IsRefusalBy (IsOfText options texts) (length texts) fault

-- all texts are patterns, and the fault is that of patterns that match as these
pub record IsOfPatterns (options : Options) (texts : List (List ℕ)) (fault : Fault) : Type 0 where
  pub trees : List Parsed
  pub read : AllZip (IsReadFrom options) texts trees
  pub refused : IsTreeRefusal (length texts) (res_of trees) fault
