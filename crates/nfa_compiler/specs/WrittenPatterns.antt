-- What a pattern that is written out finds in a text, as functions of the two. A pattern here is what the grammar reads
-- in byte mode; a text that is not a pattern finds nothing.
use Rattle.std.specs.Prelude.{◌≡◌, ◌+◌, ◌<◌, ◌≤◌, false, Bool, List, [], ◌∷◌, drop, length, take, Option, IfNone, IfSome, chars, is_some, option_and_then, ℕ}
use Rattle.std.specs.Option.{option_map_or}
use Rattle.nfa_compiler.specs.Common.{Automaton, group_named, is_utf8_empty, Span, Match, find, find_all, read, FindsFromAnyStart, IsCompiled, written_span, byte_syntax}

-- the first match of the pattern in the text
unfoldable pub first_match : List ℕ → List ℕ → Option Match
first_match pattern text =
    option_and_then (λ (found, names). find found.value text 0) (read byte_syntax (chars pattern))

-- whether the pattern matches somewhere in the text
abbrev pub has_match : List ℕ → List ℕ → Bool
has_match pattern text = is_some (first_match pattern text)

-- all matches of the pattern in the text, from left to right, without overlaps
unfoldable pub all_matches : List ℕ → List ℕ → List Match
all_matches pattern text =
    option_map_or (λ (found, names). find_all found.value text) (read byte_syntax (chars pattern)) []

-- the span of the group with this name in the first match: what the match last wrote for it
unfoldable pub named_span_in : List ℕ → List ℕ → List ℕ → Option Span
named_span_in pattern name text =
    option_and_then (λ (found, names). option_and_then
    (λ group. option_and_then (written_span group) (find found.value text 0)) (group_named (drop 1 names ∷ []) 0 name))
    (read byte_syntax (chars pattern))

-- The NFA is that of the pattern, in byte mode, and its searches may start anywhere.
pub record IsOfPattern (pattern : List ℕ) (nfa : Automaton) : Type 0 where
  pub compiled : IsCompiled byte_syntax (pattern ∷ []) nfa
  pub anywhere : is_utf8_empty nfa ≡ false
  pub free : FindsFromAnyStart nfa

-- the bytes stand in the text from this place on
pub record Stands (bytes text : List ℕ) (place : ℕ) : Type 0 where
  pub inside : place ≤ length text
  pub are : take (length bytes) (drop place text) ≡ bytes

-- the match is where the bytes stand first in the text; there is none if they stand nowhere
pub record IsFirstPlace (bytes text : List ℕ) (found : Option Match) : Type 0 where
  pub stands : IfSome found (λ m. Stands bytes text m.start)
  pub end : IfSome found (λ m. m.trace.end ≡ m.start + length bytes)
  pub first : IfSome found (λ m. (place : ℕ) → place < m.start → ¬ (Stands bytes text place))
  pub none : IfNone found ((place : ℕ) → ¬ (Stands bytes text place))
