-- The bytes that each match of an NFA begins with, and where bytes occur in a haystack.
use Rattle.std.specs.Prelude.{◌≡◌, ℕ, ◌+◌, ◌<◌, ◌≤◌, List, length, slice_get, zero, suc, ◌++◌, [], ◌∷◌, take, Option, None, Some, if◌then◌else◌, ◌==◌}
use Rattle.nfa_paths.specs.Common.{option_to_list, option_map_or, Search, Automaton, Node, node_at, Transition, ByteRange, Sparse, Look, Capture}
use Rattle.nfa_engines.specs.Laws.{MatchesSomething}
use Rattle.nfa_engines.specs.StartLaws.{anchored_at}
use Rattle.nfa_facts.specs.declared.literal.only_move.Move.{Move}

-- the bytes are in the haystack from the position on, and all of them are before the end
pub record OccursBefore (haystack : List ℕ) (end : ℕ) (bytes : List ℕ) (at : ℕ) : Type 0 where
  pub within : at + length bytes ≤ end
  pub same : (k : ℕ) → k < length bytes → slice_get haystack (at + k) ≡ slice_get bytes k

-- the bytes occur at no position from one on
pub record OccursNowhere (haystack : List ℕ) (end : ℕ) (bytes : List ℕ) (from : ℕ) : Type 0 where
  pub nowhere : (k : ℕ) → from ≤ k → ¬ OccursBefore haystack end bytes k

-- the position is the first, from one on, at which the bytes occur
pub record IsFirstOccurrence (haystack : List ℕ) (end : ℕ) (bytes : List ℕ) (from at : ℕ) : Type 0 where
  pub onward : from ≤ at
  pub here : OccursBefore haystack end bytes at
  pub before : (k : ℕ) → from ≤ k → k < at → ¬ OccursBefore haystack end bytes k

-- the move over the transition, if it has only one byte
abbrev pub move_over : Transition → Option Move
move_over t = if t.start == t.end then Some (record { byte = Some t.start; next = t.next }) else None

-- The move of a state that has only one: over one byte, or without a byte. An assertion is taken to hold.
abbrev pub only_move : Node → Option Move
only_move (ByteRange trans) = move_over trans
only_move (Sparse (t ∷ [])) = move_over t
only_move (Look look next) = Some (record { byte = None; next = next })
only_move (Capture next slot) = Some (record { byte = None; next = next })
only_move _ = None

module _ (nfa : Automaton) where
  -- the bytes of at most this many moves from a state on, up to the first state that does not have only one
  unfoldable pub bytes_from : ℕ → ℕ → List ℕ
  bytes_from zero state = []
  bytes_from (suc moves) state =
      option_map_or (λ m. option_to_list m.byte ++ bytes_from moves m.next) (only_move (node_at nfa state)) []

  -- the bytes from a state on, of at most one move for each state: the first 32 of them
  abbrev pub literal_at : ℕ → List ℕ
  literal_at state = take 32 (bytes_from (length nfa.states) state)

  -- those from the anchored start on
  abbrev pub prefix_of : List ℕ
  prefix_of = literal_at nfa.anchored

-- wherever an anchored search has an accepting path, the bytes are in the haystack, before the end of the span
pub record BeginsWith (nfa : Automaton) (bytes : List ℕ) : Type 0 where
  pub occurs : (x : Search) (at : ℕ) → MatchesSomething nfa (anchored_at x at)
      → OccursBefore x.haystack x.end bytes at
