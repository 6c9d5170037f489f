-- The codes that exports return.
use Rattle.std.specs.Prelude.{Bool, IsUtf8, List, None, Option, Some, [], codes, drop, take, ◌∷◌, ◌++◌, ℕ, ℤ, false, length, negsuc, pos, true, ◌≡◌, ◌≤◌}
use Rattle.nfa_compiler.specs.Rejected.{only_pattern_text}
use Rattle.nfa_meta.specs.Built.{IsErrorOf}
use Rattle.nfa_meta.specs.declared.builder.Builder.{Builder}
use Rattle.nfa_c.specs.declared.codes.Failure.{Failure}
use Rattle.nfa_c.specs.declared.codes.Failure.TheVariants as failure

-- something was found, or not
abbrev pub code_of : Bool → ℤ
code_of true = pos 1
code_of false = pos 0

-- the handle is empty
abbrev pub empty_code : ℤ
empty_code = negsuc 0

-- the range is none of the haystack
abbrev pub range_code : ℤ
range_code = negsuc 1

-- allocation failed
abbrev pub memory_code : ℤ
memory_code = negsuc 2

-- a text is not UTF-8
abbrev pub utf8_code : ℤ
utf8_code = negsuc 3

-- a text is not a pattern, or is too large
abbrev pub pattern_code : ℤ
pattern_code = negsuc 4

-- a text is not a template of the regex
abbrev pub template_code : ℤ
template_code = negsuc 6

-- the code of a failure
abbrev pub failure_code : Failure → ℤ
failure_code failure.Memory = memory_code
failure_code failure.Utf8 = utf8_code
failure_code (failure.Pattern error) = pattern_code

-- the range is one of the haystack
abbrev pub InRange : List ℕ → ℕ → ℕ → Type 0
InRange haystack start end = (start ≤ end) × (end ≤ length haystack)

-- why no regex is made of the text: memory is refused, it is not UTF-8, or the builder refuses it with the error
abbrev pub IsWhy : Builder → List ℕ → Failure → Type 0
IsWhy b text failure.Memory = IsUtf8 text
IsWhy b text failure.Utf8 = IsUtf8 text → ⊥
IsWhy b text (failure.Pattern error) = IsUtf8 text × IsErrorOf b (text ∷ []) error

-- the code says why no regex is made of the text
pub record SaysWhy (b : Builder) (text : List ℕ) (code : ℤ) : Type 0 where
  pub cause : Failure
  pub why : IsWhy b text cause
  pub code_is : code ≡ failure_code cause

-- the code says whether there is a value, which was written, and else the old one stays
abbrev pub Writes : Option ℕ → ℤ → ℕ → ℕ → Type 0
Writes None code old new = (code ≡ code_of false) × (new ≡ old)
Writes (Some value) code old new = (code ≡ code_of true) × (new ≡ value)

-- what is said of a failure
abbrev pub failure_text : Failure → List ℕ
failure_text failure.Memory = codes "out of memory"
failure_text failure.Utf8 = codes "the pattern is not UTF-8"
failure_text (failure.Pattern error) = only_pattern_text error

-- the bytes over the first old ones, as far as there is room
abbrev pub over : List ℕ → List ℕ → List ℕ
over bytes old = take (length old) bytes ++ drop (length bytes) old

-- the bytes have this count, and were written over the first old ones, as far as there is room
pub record IsWritten (bytes : List ℕ) (count : ℕ) (old new : List ℕ) : Type 0 where
  pub count_is : count ≡ length bytes
  pub bytes_are : new ≡ over bytes old

-- the message says what the failure is, or that memory was refused for the words, and has `count` bytes
pub record SaysFailure (f : Failure) (count : ℕ) (old new : List ℕ) : Type 0 where
  pub cause : Failure
  pub follows : (b : Builder) (text : List ℕ) → IsWhy b text f → IsWhy b text cause
  pub count_is : count ≡ length (failure_text cause)
  pub message : new ≡ over (failure_text cause) old

-- the message says why no regex is made of the text, and has `count` bytes
pub record TellsWhy (b : Builder) (text : List ℕ) (count : ℕ) (old new : List ℕ) : Type 0 where
  pub cause : Failure
  pub why : IsWhy b text cause
  pub count_is : count ≡ length (failure_text cause)
  pub message : new ≡ over (failure_text cause) old
