-- The NFA states that a search is in at a position, in order of priority: what one state of a DFA stands for.
use Rattle.std.specs.Prelude.{◌≡◌, ℕ, ◌<◌, ◌≤◌, zero, suc, Bool, true, false, List, [], ◌∷◌, ◌++◌, length, replicate, is_some, if◌then◌else◌, Option, None, option_and_then, slice_index_or, slice_set, ◌==◌}
use Rattle.regex_search_core.specs.declared.search.MatchKind.TheVariants.{All}
use Rattle.thompson_nfa.specs.declared.look.Look as looks
pub use Rattle.nfa_paths.specs.Common.{Holding, holding_at, epsilon_states}
use Rattle.nfa_paths.specs.Common.{option_to_list, option_or, MatchKind, Automaton, In, rests, node_at, pattern_of, target_on, LeftmostFirst, NoRepeats}

-- the list without a state
abbrev pub without : ℕ → List ℕ → List ℕ
without s [] = []
without s (t ∷ states) = if t == s then without s states else t ∷ without s states

-- each state of the list once, where it is first
abbrev pub first_of_each : List ℕ → List ℕ
first_of_each [] = []
first_of_each (s ∷ states) = s ∷ without s (first_of_each states)

module _ (nfa : Automaton) where
  module _ (holding : Holding) where
    -- The waiting states, explored depth first. A state that was seen before is passed over. A byte state, a Fail or a
    -- Match is kept; any other gives way to the states that it leads to. At most `left` states are still to be seen.
    unfoldable pub explore : ℕ → List Bool → List ℕ → List ℕ
    explore left seen [] = []
    explore zero seen (s ∷ waiting) = []
    explore (suc left) seen (s ∷ waiting) =
        if slice_index_or seen s true then explore (suc left) seen waiting
        else if rests (node_at nfa s) then s ∷ explore left (slice_set seen s true) waiting
        else explore left (slice_set seen s true) (epsilon_states holding (node_at nfa s) ++ waiting)

    -- the closure of a list of states: what they lead to without a byte, each state once, in order of priority
    abbrev pub closure : List ℕ → List ℕ
    closure states = explore (length nfa.states) (replicate (length nfa.states) false) states

  -- The states that the byte leads to, in order. A state is in the list twice if two states lead to it. Without a byte,
  -- so at the end of the span, there are none.
  abbrev pub step : Option ℕ → List ℕ → List ℕ
  step byte [] = []
  step byte (s ∷ states) = option_to_list (option_and_then (target_on (node_at nfa s)) byte) ++ step byte states

  -- the pattern of the state, if it is a Match
  abbrev pub state_pattern : ℕ → Option ℕ
  state_pattern s = pattern_of (node_at nfa s)

  -- the pattern of the first Match
  abbrev pub first_pattern : List ℕ → Option ℕ
  first_pattern [] = None
  first_pattern (s ∷ states) = option_or (state_pattern s) (first_pattern states)

  -- the pattern of the last Match
  abbrev pub last_pattern : List ℕ → Option ℕ
  last_pattern [] = None
  last_pattern (s ∷ states) = option_or (last_pattern states) (state_pattern s)

  -- the states before the first Match
  abbrev pub before_first_match : List ℕ → List ℕ
  before_first_match [] = []
  before_first_match (s ∷ states) = if is_some (state_pattern s) then [] else s ∷ before_first_match states

  -- the pattern that matches at the position
  abbrev pub pattern_by_kind : MatchKind → List ℕ → Option ℕ
  pattern_by_kind LeftmostFirst states = first_pattern states
  pattern_by_kind All states = last_pattern states

  -- the states that the search goes on with: leftmost first drops those after a Match
  abbrev pub kept : MatchKind → List ℕ → List ℕ
  kept LeftmostFirst states = before_first_match states
  kept All states = states

-- a state that is already in a list adds nothing to the closure, if the list has it again further right
abbrev pub RepeatAddsNothing : Type 0
RepeatAddsNothing =
    (nfa : Automaton) (holding : Holding) (before later : List ℕ) (s : ℕ) → In s before
    → closure nfa holding (before ++ s ∷ later) ≡ closure nfa holding (before ++ later)

-- `first_of_each` has each state once
abbrev pub FirstOfEachHasEachOnce : Type 0
FirstOfEachHasEachOnce = (states : List ℕ) → NoRepeats (first_of_each states)

-- a closure has each state once
abbrev pub ClosureHasEachOnce : Type 0
ClosureHasEachOnce = (nfa : Automaton) (holding : Holding) (states : List ℕ) → NoRepeats (closure nfa holding states)

-- so it has no more states than the NFA
abbrev pub ClosureIsShort : Type 0
ClosureIsShort =
    (nfa : Automaton) (holding : Holding) (states : List ℕ) → length (closure nfa holding states) ≤ length nfa.states

-- each of them is a byte state, a Fail or a Match of the NFA
abbrev pub ClosureRests : Type 0
ClosureRests =
    (nfa : Automaton) (holding : Holding) (states : List ℕ) (s : ℕ) → In s (closure nfa holding states)
    → (rests (node_at nfa s) ≡ true) × (s < length nfa.states)

-- a closure reads nothing of the haystack but which assertions hold
abbrev pub ClosureReadsAssertions : Type 0
ClosureReadsAssertions =
    (nfa : Automaton) (a b : Holding) (states : List ℕ) → ((look : looks.Look) → a look ≡ b look)
    → closure nfa a states ≡ closure nfa b states
