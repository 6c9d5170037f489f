-- What is printed for a text.
use Rattle.std.specs.Prelude.{ℕ, ◌≡◌, ◌==◌, ◌-◌, ◌<◌, ◌≤◌, Bool, List, [], ◌∷◌, ◌++◌, Option, None, Some, IfSome, chars, encode_utf8_all, flat_map, length, map, option_map, slice_index_or, string_bytes, take, if◌then◌else◌, false, true, ⊤}
use Rattle.std.specs.Io.BufRead.{ends_with_byte, strip_last}
use Rattle.std.specs.List.{AllZip}
use Rattle.nfa_compiler.specs.Common.{Appends, Captured, Re, ReadsAsText, escaped_text, PatternHit, IsOfOneText, NamesText}
use Rattle.nfa_compiler.specs.declared.error.CompileError.{CompileError}
use Rattle.program_text.specs.Lines.{line_feed, lines_of}
use Rattle.nfa_meta.specs.ChoiceState.{ChoiceState}
use Rattle.nfa_meta.specs.Filled.{AreAllCaught}
use Rattle.nfa_meta.specs.declared.interpolate.TemplateError.{TemplateError}
use Rattle.nfa_meta.specs.declared.interpolate.TemplateError.TheVariants as template
use Rattle.replacer.specs.Fillings.{Groups, IsBadStretch, IsPiece, pieces_in, put_from}
use Rattle.replacer.specs.Hits.{AreHitsOf, HaveNames, Mean, Sought, captured_by, groups_named_by, syntax_of}
use Rattle.replacer.specs.Separated.{fields_by, first_fields_by}
use Rattle.replacer.specs.Stretches.{Stretched, all_stretched}
use Rattle.replacer.specs.declared.action.Action.{Action}
use Rattle.replacer.specs.declared.action.Action.TheVariants as action
use Rattle.replacer.specs.declared.command.Command.{Command}
use Rattle.replacer.specs.declared.command.Command.TheVariants.{Replace, Split, SplitN}
use Rattle.replacer.specs.declared.command.Request.{Request}
use Rattle.replacer.specs.declared.filling.BadStretch.{BadStretch}
use Rattle.replacer.specs.declared.filling.Piece.{Piece}
use Rattle.replacer.specs.declared.job.Mistake.{Mistake}
use Rattle.replacer.specs.declared.job.Mistake.TheVariants.{Memory, OnlyPattern, Pattern, Template}

-- the text with a backslash before each character that has a meaning of its own
abbrev pub escaped : List ℕ → List ℕ
escaped text = encode_utf8_all (escaped_text (chars text))

-- the texts of the patterns of a request
abbrev pub pattern_texts : Request → List (List ℕ)
pattern_texts request = map string_bytes request.patterns.now

-- the patterns that are searched for: with `fixed`, the texts that were given, escaped
abbrev pub sought : Request → Sought
sought request = record {
  texts = if request.fixed then map escaped (pattern_texts request) else pattern_texts request;
  ignore_case = request.ignore_case;
}

-- the pattern at the place of each text matches its bytes, and has no group, if case is not ignored
abbrev pub AreFixedTexts : List (List ℕ) → List (List ℕ) → Type 0
AreFixedTexts texts patterns = AllZip (λ (text pattern : List ℕ). ReadsAsText pattern text) texts patterns

-- with `fixed`, the patterns that are searched for are of the texts that were given
abbrev pub IsFixedText : Request → Type 0
IsFixedText request = request.fixed ≡ true → AreFixedTexts (pattern_texts request) (sought request).texts

-- the line without the line feed at its end, which the pattern does not see
abbrev pub without_feed : List ℕ → List ℕ
without_feed line = strip_last line_feed line

-- the line feed at its end, if there is one
abbrev pub feed_of : List ℕ → List ℕ
feed_of line = if ends_with_byte line_feed line then line_feed ∷ [] else []

-- the text with what these fillings give in place of each of these hits, for patterns with these groups
abbrev pub replaced_by : Groups → List (List Piece) → List ℕ → List PatternHit → List ℕ
replaced_by groups fillings text hits = put_from text fillings 0 (map (captured_by groups) hits)

-- the first of these, as many as the limit says; all, if there is none
abbrev pub limited : {A : Type 0} → Option ℕ → List A → List A
limited None xs = xs
limited (Some count) xs = take count xs

-- how many more matches may be replaced if this many were
abbrev pub left_after : Option ℕ → ℕ → Option ℕ
left_after limit count = option_map (λ n. n - count) limit

-- these are the captures of the first matches of the text, as many as the limit says
pub record AreFirstOf (r : ChoiceState) (text : List ℕ) (limit : Option ℕ) (cs : List Captured) : Type 0 where
  pub all : List Captured
  pub are : AreAllCaught r text all
  pub first : cs ≡ limited limit all

-- a line for each field
abbrev pub field_lines : List (List ℕ) → List ℕ
field_lines fields = flat_map (λ field. field ++ (10 ∷ [])) fields

-- Each of these templates is read, for patterns with these groups. Numbers of patterns are at most 2147483646.
pub record AreFillings (groups : Groups) (templates : List (List Stretched)) (fillings : List (List Piece))
    : Type 0 where
  pub all : (k : ℕ) → k < length templates → k ≤ 2147483646 → k < length fillings
  pub each : (k : ℕ) → k < length fillings
      → AllZip (IsPiece groups k) (slice_index_or templates k []) (slice_index_or fillings k [])

-- The action is what the command says, for patterns with these groups: the fillings are those of the templates.
abbrev pub IsActionOf : Groups → Command → Action → Type 0
IsActionOf groups (Replace templates) (action.Replace fillings) =
    AreFillings groups (all_stretched templates.now) (pieces_in fillings.items)
IsActionOf groups Split action.Split = ⊤
IsActionOf groups (SplitN limit) (action.SplitN count) = count ≡ limit
IsActionOf groups _ _ = ⊥

-- What is printed of a text that has this end, which the pattern does not see, and these hits. At most `left` of them
-- are replaced.
abbrev pub shown : Groups → Action → Option ℕ → List ℕ → List ℕ → List PatternHit → List ℕ
shown groups (action.Replace fillings) left text end hits =
    replaced_by groups (pieces_in fillings.items) text (limited left hits) ++ end
shown groups action.Split left text end hits = field_lines (fields_by text hits)
shown groups (action.SplitN limit) left text end hits = field_lines (first_fields_by limit text hits)

-- how many matches may be replaced after it
abbrev pub left_by : Action → Option ℕ → List PatternHit → Option ℕ
left_by (action.Replace fillings) left hits = left_after left (length hits)
left_by action.Split left hits = left
left_by (action.SplitN limit) left hits = left

-- The patterns have these groups, and each text has the hits that the function gives.
module _ (groups : Groups) (hits : List ℕ → List PatternHit) (act : Action) where
  -- what is printed of lines, in order
  unfoldable pub lines_shown : Option ℕ → List (List ℕ) → List ℕ
  lines_shown left [] = []
  lines_shown left (line ∷ lines) =
      shown groups act left (without_feed line) (feed_of line) (hits (without_feed line))
      ++ lines_shown (left_by act left (hits (without_feed line))) lines

  -- what is printed of a text, line by line or as a whole
  abbrev pub printed : Bool → Option ℕ → List ℕ → List ℕ
  printed whole limit text =
      if whole then shown groups act limit text [] (hits text) else lines_shown limit (lines_of text)

-- A reader of known bytes had these left, and a writer of known bytes has taken what is printed of them, and nothing
-- else, for all that the grammar reads in the patterns of the request. If a text is not UTF-8, its hits depend on
-- whether a pattern may match the empty string (`empty`).
abbrev pub Prints : Request → Option (List ℕ) → Option (List ℕ) → Option (List ℕ) → Type 0
Prints request input old new =
    (res : List Re) (names : List (List (Option (List ℕ)))) → Mean (sought request) res
    → HaveNames (sought request) names
    → (empty : Bool) × (act : Action) × IsActionOf (groups_named_by names) request.command act
    × ((hits : List ℕ → List PatternHit) → AreHitsOf res empty hits
    → IfSome input (λ text. Appends old new
    (printed (groups_named_by names) hits act request.whole request.limit text)))

-- the mistake, unless the error is that allocation failed
abbrev pub mistake_by : Mistake → TemplateError → Mistake
mistake_by mistake template.Memory = Memory
mistake_by mistake (template.UnknownGroup start end) = mistake
mistake_by mistake (template.Unclosed dollar) = mistake

-- this is wrong with the template of this number
abbrev pub template_mistake : ℕ → BadStretch → Mistake
template_mistake number bad = mistake_by (Template (record { number = number; bad = bad })) bad.error

-- The command has templates, and this is wrong with one of them. The patterns have these groups.
abbrev pub IsTemplateMistake : Groups → Command → Mistake → Type 0
IsTemplateMistake groups (Replace templates) (Template filling) =
    IsBadStretch groups filling.number (slice_index_or (all_stretched templates.now) filling.number []) filling.bad
IsTemplateMistake groups command Memory = ⊤
IsTemplateMistake groups _ _ = ⊥

-- the error of a pattern: `OnlyPattern` if it is the only one
abbrev pub pattern_mistake : ℕ → CompileError → Mistake
pattern_mistake count error = if count == 1 then OnlyPattern (record { 0 = error }) else Pattern error

-- this is wrong with one of the patterns: it cannot be read, or it exceeds the default size limit
abbrev pub IsPatternError : Sought → CompileError → Type 0
IsPatternError sought error =
    IsOfOneText (syntax_of sought) sought.texts error × NamesText (syntax_of sought) 10485760 sought.texts error

-- allocation failed, or this is wrong with a pattern: with the only one, or with one of several
abbrev pub IsPatternMistake : Sought → Mistake → Type 0
IsPatternMistake sought Memory = ⊤
IsPatternMistake sought (OnlyPattern error) = (length sought.texts ≡ 1) × IsPatternError sought error.0
IsPatternMistake sought (Pattern error) = ((length sought.texts == 1) ≡ false) × IsPatternError sought error
IsPatternMistake sought (Template filling) = ⊥

-- allocation failed, or this is wrong with the patterns, or with a template of the command
abbrev pub IsMisused : Request → Mistake → Type 0
IsMisused request Memory = ⊤
IsMisused request (OnlyPattern error) = IsPatternMistake (sought request) (OnlyPattern error)
IsMisused request (Pattern error) = IsPatternMistake (sought request) (Pattern error)
IsMisused request (Template filling) =
    (names : List (List (Option (List ℕ)))) → HaveNames (sought request) names
    → IsTemplateMistake (groups_named_by names) request.command (Template filling)

-- A run over the lines of an input is under way.
module _ (groups : Groups) (hits : List ℕ → List PatternHit) (act : Action) (limit : Option ℕ) where
  -- The bytes that are left to read are known. What was written, and what is printed of the lines that are left, is
  -- what is printed of those of the text. At most `left` of their matches are replaced.
  pub record IsGoing (text : List ℕ) (input out-before out : Option (List ℕ)) (left : Option ℕ) : Type 0 where
    pub rest : List ℕ
    pub rest_is : input ≡ Some rest
    pub written : List ℕ
    pub writes : Appends out-before out written
    pub printed_is : lines_shown groups hits act limit (lines_of text)
        ≡ written ++ lines_shown groups hits act left (lines_of rest)

  -- the same, if the bytes of the reader were known at first
  abbrev pub HasWritten :
      Option (List ℕ) → Option (List ℕ) → Option (List ℕ) → Option (List ℕ) → Option ℕ → Type 0
  HasWritten input-before input out-before out left =
      IfSome input-before (λ text. IsGoing text input out-before out left)
