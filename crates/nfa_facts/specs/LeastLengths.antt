-- How many bytes each match of an NFA has at least.
use Rattle.std.specs.Prelude.{◌≡◌, ℕ, ◌+◌, ◌≤◌, All, List, Some, is_some, length, slice_index_or, true}
use Rattle.nfa_paths.specs.Common.{Automaton, Node, Search, node_at, pattern_of, target_on}
use Rattle.nfa_scan_core.specs.FirstBytes.{epsilon_targets}
use Rattle.nfa_engines.specs.Laws.{MatchesSomething}
use Rattle.nfa_engines.specs.StartLaws.{anchored_at}

-- each match has at least this many bytes: wherever an anchored search has an accepting path, the span has that many
-- from there on
pub record HasLeast (nfa : Automaton) (least : ℕ) : Type 0 where
  pub fits : (x : Search) (at : ℕ) → MatchesSomething nfa (anchored_at x at) → at + least ≤ x.end

-- Each state has a number in the list. This one is 0 if the state is a match, at most that of each state that it leads
-- to without a byte, and at most one more than that of its target on each byte.
pub record IsLeastOf (lengths : List ℕ) (node : Node) (n : ℕ) : Type 0 where
  pub ends : is_some (pattern_of node) ≡ true → n ≡ 0
  pub without : All (λ s. n ≤ slice_index_or lengths s 0) (epsilon_targets node)
  pub over : (b t : ℕ) → target_on node b ≡ Some t → n ≤ slice_index_or lengths t 0 + 1

-- each number is at most the number of bytes from its state to a match
pub record AreLeastLengths (nfa : Automaton) (lengths : List ℕ) : Type 0 where
  pub size : length lengths ≡ length nfa.states
  pub each : (s : ℕ) → IsLeastOf lengths (node_at nfa s) (slice_index_or lengths s 0)
