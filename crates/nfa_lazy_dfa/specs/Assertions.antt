-- Assertions that read no more than the byte on each side of a position, and the bytes that a lazy DFA may read.
use Rattle.std.specs.Prelude.{◌≡◌, ℕ, ◌<◌, ◌≤◌, ◌⊎◌, Bool, true, false, ◌||◌, ◌==◌, ◌++◌, List, length, slice_index, slice_index_or, Option, None, Some, ⊤, option_to_list, if◌then◌else◌}
use Rattle.nfa_paths.specs.Common.{Automaton, Node, node_at, Look, is_word_byte, StartLine, WordUnicode, WordUnicodeNegate, WordStartUnicode, WordEndUnicode, WordStartHalfUnicode, WordEndHalfUnicode, Holding, holding_at}
pub use Rattle.thompson_nfa.specs.Looks.{byte_before}
use Rattle.thompson_nfa.specs.declared.look.Look as looks

-- the assertion is not one of a Unicode word
abbrev pub reads_bytes : looks.Look → Bool
reads_bytes WordUnicode = false
reads_bytes WordUnicodeNegate = false
reads_bytes WordStartUnicode = false
reads_bytes WordEndUnicode = false
reads_bytes WordStartHalfUnicode = false
reads_bytes WordEndHalfUnicode = false
reads_bytes _ = true

-- the state is not such an assertion, so a search may follow it at any byte
abbrev pub may_follow : Node → Bool
may_follow (Look look next) = reads_bytes look
may_follow _ = true

-- no state of the NFA is an assertion of a Unicode word
pub record HasNoUnicodeWord (nfa : Automaton) : Type 0 where
  pub all : (s : ℕ) → may_follow (node_at nfa s) ≡ true

-- a state of the NFA is an assertion of a Unicode word: not all are others
abbrev pub HasUnicodeWord : Automaton → Type 0
HasUnicodeWord nfa = ¬ HasNoUnicodeWord nfa

-- A search may read the byte, or there is none. With an assertion of a Unicode word it may read only bytes below 128.
abbrev pub IsRead : Automaton → Option ℕ → Type 0
IsRead nfa None = ⊤
IsRead nfa (Some byte) = HasNoUnicodeWord nfa ⊎ (byte < 128)

-- a search stops at the byte
pub record IsQuit (nfa : Automaton) (byte : ℕ) : Type 0 where
  pub word : HasUnicodeWord nfa
  pub high : 128 ≤ byte

-- the state is an assertion
abbrev pub is_look : Node → Bool
is_look (Look look next) = true
is_look _ = false

-- no state of the NFA is an assertion
pub record HasNoLook (nfa : Automaton) : Type 0 where
  pub all : (s : ℕ) → is_look (node_at nfa s) ≡ false

-- which assertions hold between the two bytes, or at an end of the haystack
abbrev pub sees : Option ℕ → Option ℕ → Holding
sees before after = holding_at (option_to_list before ++ option_to_list after) (length (option_to_list before))

-- the assertions of the NFA hold alike
pub record SameLooks (nfa : Automaton) (a b : Holding) : Type 0 where
  pub same : (s : ℕ) (look : looks.Look) (next : ℕ) → node_at nfa s ≡ Look look next → a look ≡ b look

-- if the assertion is that a line starts after a terminator of its own, that byte is marked
abbrev pub IsLookMarked : List Bool → looks.Look → Type 0
IsLookMarked marks (StartLine terminator) = slice_index_or marks terminator false ≡ true
IsLookMarked marks _ = ⊤

-- if the state is an assertion, its line terminator is marked
abbrev pub IsMarkedBy : List Bool → Node → Type 0
IsMarkedBy marks (Look look next) = IsLookMarked marks look
IsMarkedBy marks _ = ⊤

-- the line terminators of all assertions of the NFA are marked
pub record AreTerminators (nfa : Automaton) (marks : List Bool) : Type 0 where
  pub marked : (s terminator next : ℕ) → node_at nfa s ≡ Look (StartLine terminator) next
      → slice_index_or marks terminator false ≡ true

-- each mark stays
abbrev pub KeepsMarks : List Bool → List Bool → Type 0
KeepsMarks old new = (b : ℕ) → slice_index_or old b false ≡ true → slice_index_or new b false ≡ true

-- a byte like this one, of four, if no assertion has a line terminator of its own
abbrev pub plain_like : ℕ → ℕ
plain_like b = if is_word_byte b then 97 else (if b == 10 || b == 13 then b else 32)

-- a byte like this one, if these are the line terminators
abbrev pub like : List Bool → ℕ → ℕ
like marks b =
    if slice_index_or marks b false || slice_index_or marks (plain_like b) false then b else plain_like b

-- each assertion holds after a byte exactly if it holds after the one that the list has at the byte's number
pub record AreLikes (nfa : Automaton) (likes : List ℕ) : Type 0 where
  pub same : (byte : ℕ) (after : Option ℕ) → byte < 256 → IsRead nfa (Some byte) → IsRead nfa after
      → SameLooks nfa (sees (Some (slice_index likes byte)) after) (sees (Some byte) after)
