-- The bytes that a match may begin with, if they are few.
use Rattle.std.specs.Prelude.{◌≡◌, ℕ, ◌<◌, ◌≤◌, Bool, true, false, List, slice_index}
use Rattle.memchr.specs.Find.{is_byte, is_byte2, is_byte3}
use Rattle.nfa_paths.specs.Common.{Automaton}
use Rattle.nfa_paths.specs.Paths.{NoMatchBegins}
use Rattle.nfa_facts.specs.declared.literal.few_bytes.FewBytes.{FewBytes}
use Rattle.nfa_facts.specs.declared.literal.few_bytes.FewBytes.TheVariants.{Any, No, One, Two, Three}

-- whether the byte is one of these
abbrev pub is_among : FewBytes → ℕ → Bool
is_among Any byte = true
is_among No byte = false
is_among (One a) byte = is_byte a byte
is_among (Two a b) byte = is_byte2 a b byte
is_among (Three a b c) byte = is_byte3 a b c byte

-- no match begins with another byte
pub record BeginsAmong (nfa : Automaton) (few : FewBytes) : Type 0 where
  pub others : (byte : ℕ) → byte < 256 → is_among few byte ≡ false → NoMatchBegins nfa byte

-- the haystack has none of these bytes from one position up to another
pub record LacksBetween (few : FewBytes) (haystack : List ℕ) (from to : ℕ) : Type 0 where
  pub none : (k : ℕ) → from ≤ k → k < to → is_among few (slice_index haystack k) ≡ false
