-- Bytes that each match of a pattern has.
use Rattle.std.specs.Prelude.{◌≡◌, ℕ, ◌<◌, Bool, true, All, List, is_some}
use Rattle.memchr.specs.Find.{OccursAt}
use Rattle.nfa_compiler.specs.Common.{Search, Matches, Re, expected}

-- the bytes are somewhere in the text
abbrev pub OccursIn : List ℕ → List ℕ → Type 0
OccursIn text bytes = (k : ℕ) × OccursAt text bytes k

-- each text in which the pattern matches has the bytes
abbrev pub IsRequired : List ℕ → Re → Type 0
IsRequired bytes re =
    (text : List ℕ) → All (λ b. b < 256) text → (i j : ℕ) → Matches text re i j → OccursIn text bytes

-- the same of each of these patterns
abbrev pub AreRequired : List Re → List ℕ → Type 0
AreRequired res bytes = All (IsRequired bytes) res

-- a text has the bytes that each match has, if a search of it finds a hit by the reference matcher
abbrev pub HitsHaveBytes : Type 0
HitsHaveBytes =
    (res : List Re) (bytes : List ℕ) → AreRequired res bytes → (bound : Bool) (x : Search)
    → All (λ b. b < 256) x.haystack → is_some (expected res bound x) ≡ true → OccursIn x.haystack bytes
