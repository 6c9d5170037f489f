-- How rules are written, one in a line, the regex of their patterns, and why rules cannot be compiled.
use Rattle.std.specs.Prelude.{ℕ, ◌+◌, ◌<◌, ◌≡◌, ◌≢◌, ◌-◌, ◌↔◌, ◌||◌, ◌++◌, Bool, false, not, IsTrue, List, [], chars, codes, drop, length, map, slice_index, slice_index_or, ◌^◌, Some, ⊤, min, slice_get, take, ◌==◌}
use Rattle.nfa_compiler.specs.Common.{decimal, AllZip, after_first, before_first, enumerate_from, filter, position_or_len, trim, trim_start, Re, AreMeant, compile_error_text, IsFirstTooBigOf, IsRejection, byte_syntax}
use Rattle.nfa_compiler.specs.declared.error.CompileError.TheVariants.{Memory, Syntax, TooBig}
use Rattle.lexer.specs.declared.rules.Rule.{Rule}
use Rattle.lexer.specs.declared.rules.RulesError.{RulesError}
use Rattle.lexer.specs.declared.rules.RulesError.TheVariants.{NoRule, NoPattern, TooLarge, Compile}
use Rattle.nfa_compiler.specs.declared.syntax_error.SyntaxError.{SyntaxError}

-- whether the byte is `=`
abbrev pub is_equals : ℕ → Bool
is_equals byte = byte == 61

-- The name is before the first `=` of the line, and the pattern is after it, both without white space around them.
abbrev pub name_in : List ℕ → List ℕ
name_in line = trim (before_first is_equals line)

abbrev pub pattern_in : List ℕ → List ℕ
pattern_in line = trim (after_first is_equals line)

-- The character of the line, from 1, at which the pattern starts: after those before the `=`, the `=`, and white space.
abbrev pub column_in : List ℕ → ℕ
column_in line =
    let behind = after_first is_equals line in
    length (chars (before_first is_equals line)) + (length (chars behind) - length (chars (trim_start behind))) + 2

-- the line has a name, an `=` and a pattern
pub record HasRule (line : List ℕ) : Type 0 where
  pub sign : position_or_len is_equals line < length line
  pub some_name : name_in line ≢ []
  pub some_pattern : pattern_in line ≢ []

-- It is this rule, whose pattern starts at this column. The texts of `space` are not shown.
pub record IsRuleOf (line : List ℕ) (rule : Rule) : Type 0 where
  pub has : HasRule line
  pub name_is : rule.name.now ≡ name_in line
  pub pattern_is : rule.pattern.now ≡ pattern_in line
  pub hidden_is : IsTrue rule.hidden ↔ (rule.name.now ≡ codes "space")
  pub column_is : rule.column ≡ column_in line

-- the line has nothing but white space, or starts with `#`, the byte 35
abbrev pub is_left_out : List ℕ → Bool
is_left_out line = (length (trim line) == 0) || (slice_index line 0 == 35)

-- The lines that are to have a rule, with their numbers. The first of all lines has this number.
abbrev pub rule_lines : ℕ → List (List ℕ) → List (ℕ × List ℕ)
rule_lines number lines = filter (λ l. not (is_left_out l.1)) (enumerate_from number lines)

-- the rule is that of this line, and has its number
pub record IsRuleAt (numbered : ℕ × List ℕ) (rule : Rule) : Type 0 where
  pub rule_is : IsRuleOf numbered.1 rule
  pub line_is : rule.line ≡ numbered.0

-- these are the rules of the lines, in order
abbrev pub AreRulesOf : List (List ℕ) → List Rule → Type 0
AreRulesOf lines rules = AllZip IsRuleAt (rule_lines 1 lines) rules

-- the line of this index, from 0, is to have a rule, and has none
pub record IsWrong (lines : List (List ℕ)) (index : ℕ) : Type 0 where
  pub within : index < length lines
  pub kept : is_left_out (slice_index_or lines index []) ≡ false
  pub no_rule : ¬ HasRule (slice_index_or lines index [])

-- it is the first such line, and has this number
pub record IsFirstWrong (lines : List (List ℕ)) (number : ℕ) : Type 0 where
  pub index : ℕ
  pub number_is : number ≡ index + 1
  pub wrong : IsWrong lines index
  pub first : (k : ℕ) → k < index → ¬ IsWrong lines k

-- why these lines are not rules: the first line without one; or allocation failed
abbrev pub IsRulesError : List (List ℕ) → RulesError → Type 0
IsRulesError lines (NoRule line) = IsFirstWrong lines line
IsRulesError lines (NoPattern line column reason) = ⊥
IsRulesError lines (TooLarge line limit) = ⊥
IsRulesError lines (Compile error) = error ≡ Memory

-- The rules of the first `index` lines were made. With those of the lines that are left, they are the rules of all.
pub record HasParsed (lines : List (List ℕ)) (index : ℕ) (rules : List Rule) : Type 0 where
  pub so_far : (more : List Rule) → AllZip IsRuleAt (rule_lines (index + 1) (drop index lines)) more
      → AreRulesOf lines (rules ++ more)
  pub fine : (k : ℕ) → k < index → ¬ IsWrong lines k

-- the patterns of these rules
abbrev pub rule_patterns : List Rule → List (List ℕ)
rule_patterns rules = map (λ rule. rule.pattern.now) rules

-- these are what the patterns of the rules mean
abbrev pub Mean : List Rule → List Re → Type 0
Mean rules res = AreMeant byte_syntax (rule_patterns rules) res

-- The pattern of the rule of this line is none, by the grammar. The column counts the characters of the line before the
-- error, up to the largest number.
pub record IsSyntaxMistake (rules : List Rule) (line column : ℕ) (reason : List ℕ) : Type 0 where
  pub rule : Rule
  pub error : SyntaxError
  pub rule_is : slice_get rules error.pattern ≡ Some rule
  pub rejected : IsRejection byte_syntax error.pattern rule.pattern.now error
  pub line_is : line ≡ rule.line
  pub column_is : column ≡ min (rule.column + length (chars (take error.span.start rule.pattern.now))) (2 ^ 64 - 1)
  pub reason_is : reason ≡ error.reason.now

-- The pattern of the rule of this line is the first that exceeds the default size limit, which is this one.
pub record IsTooLarge (rules : List Rule) (line limit : ℕ) : Type 0 where
  pub rule : Rule
  pub pattern : ℕ
  pub rule_is : slice_get rules pattern ≡ Some rule
  pub first : IsFirstTooBigOf byte_syntax limit (rule_patterns rules) pattern
  pub line_is : line ≡ rule.line
  pub limit_is : limit ≡ 10485760

-- why these rules cannot be compiled: one of them is wrong, or the error is of all
abbrev pub IsCompileMistake : List Rule → RulesError → Type 0
IsCompileMistake rules (NoRule line) = ⊥
IsCompileMistake rules (NoPattern line column reason) = IsSyntaxMistake rules line column reason.now
IsCompileMistake rules (TooLarge line limit) = IsTooLarge rules line limit
IsCompileMistake rules (Compile (Syntax e)) = ⊥
IsCompileMistake rules (Compile (TooBig pattern limit)) = ⊥
IsCompileMistake rules (Compile _) = ⊤

-- the text of an error
abbrev pub rules_error_text : RulesError → List ℕ
rules_error_text (NoRule line) = codes "line " ++ decimal line ++ codes " of the rules is not NAME = PATTERN"
rules_error_text (NoPattern line column reason) =
    codes "line " ++ decimal line ++ codes " of the rules, column " ++ decimal column ++ codes ": " ++ reason.now
rules_error_text (TooLarge line limit) =
    codes "line " ++ decimal line ++ codes " of the rules: the pattern exceeds the size limit of " ++ decimal limit
    ++ codes " bytes"
rules_error_text (Compile e) = compile_error_text e
