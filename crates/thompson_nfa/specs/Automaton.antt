-- an NFA as a value
use Rattle.std.specs.Prelude.{◌≡◌, ℕ, ◌<◌, ◌⊎◌, Bool, true, false, List, [], ◌∷◌, length, All, map, Option, IfSome, ⊤}
use Rattle.regex_search_core.specs.Groups.{slot_count}
use Rattle.regex_search_core.specs.PatternSets.{number_of}
use Rattle.thompson_nfa.specs.Looks.{with_terminator}
use Rattle.thompson_nfa.specs.declared.look.Look as looks
use Rattle.thompson_nfa.specs.declared.state.Transition.{Transition}
use Rattle.thompson_nfa.specs.declared.state.State as code
use Rattle.thompson_nfa.specs.declared.state.State.TheVariants as variant

-- a state, with lists instead of vectors
pub data Node : Type 0 where
  ByteRange : (trans : Transition) → Node
  Sparse : (transitions : List Transition) → Node
  Dense : (targets : List (Option ℕ)) → Node
  Look : (look : looks.Look) (next : ℕ) → Node
  Union : (alternates : List ℕ) → Node
  BinaryUnion : (alt1 alt2 : ℕ) → Node
  Capture : (next slot : ℕ) → Node
  Fail : Node
  Match : (pattern : ℕ) → Node

-- the state as a value, with lists instead of vectors and numbers instead of patterns
abbrev pub node_of : code.State → Node
node_of (variant.ByteRange trans) = ByteRange trans
node_of (variant.Sparse transitions) = Sparse transitions.items
node_of (variant.Dense targets) = Dense targets.items
node_of (variant.Look look next) = Look look next
node_of (variant.Union alternates) = Union alternates.items
node_of (variant.BinaryUnion alt1 alt2) = BinaryUnion alt1 alt2
node_of (variant.Capture next slot) = Capture next slot
node_of variant.Fail = Fail
node_of (variant.Match pattern) = Match (number_of pattern)

-- an NFA as a value: its states, its starts, its patterns and groups, and two flags
pub record Automaton : Type 0 where
  pub states : List Node
  pub anchored : ℕ
  pub unanchored : ℕ
  -- the start state of each pattern
  pub patterns : List ℕ
  -- the names of each pattern's explicit groups, or the groups of no pattern
  pub groups : List (List (Option (List ℕ)))
  pub has_empty : Bool
  pub utf8 : Bool

-- each state that this one leads to is below n
abbrev pub LeadsBelow : ℕ → Node → Type 0
LeadsBelow n (ByteRange trans) = trans.next < n
LeadsBelow n (Sparse transitions) = All (λ t. t.next < n) transitions
LeadsBelow n (Dense targets) = All (λ o. IfSome o (λ s. s < n)) targets
LeadsBelow n (Look look next) = next < n
LeadsBelow n (Union alternates) = All (λ s. s < n) alternates
LeadsBelow n (BinaryUnion alt1 alt2) = (alt1 < n) × (alt2 < n)
LeadsBelow n (Capture next slot) = next < n
LeadsBelow n Fail = ⊤
LeadsBelow n (Match pattern) = ⊤

-- if the state is a Capture, its slot is below n
abbrev pub SlotBelow : ℕ → Node → Type 0
SlotBelow n (Capture next slot) = slot < n
SlotBelow n _ = ⊤

-- if the state is a Match, its pattern is below n
abbrev pub PatternBelow : ℕ → Node → Type 0
PatternBelow n (Match pattern) = pattern < n
PatternBelow n _ = ⊤

-- each of these numbers names a state
pub record AreStatesNumbered (states : List Node) (anchored unanchored : ℕ) (patterns : List ℕ) : Type 0 where
  pub anchored_in : anchored < length states
  pub unanchored_in : unanchored < length states
  pub patterns_in : All (λ s. s < length states) patterns
  pub targets_in : All (LeadsBelow (length states)) states

-- each number of the NFA names one of its states
abbrev pub IsNumbered : Automaton → Type 0
IsNumbered a = AreStatesNumbered a.states a.anchored a.unanchored a.patterns

-- each Capture writes a slot of the groups
abbrev pub AreSlotsWithin : Automaton → Type 0
AreSlotsWithin a = All (SlotBelow (slot_count a.groups)) a.states

-- each Match is of a pattern of the NFA
abbrev pub ArePatternsWithin : Automaton → Type 0
ArePatternsWithin a = All (PatternBelow (length a.patterns)) a.states

-- the groups are given for each pattern, or for none
abbrev pub AreGroupsOfPatterns : Automaton → Type 0
AreGroupsOfPatterns a = (length a.groups ≡ length a.patterns) ⊎ (length a.groups ≡ 0)

-- what every NFA keeps
pub record IsAutomaton (a : Automaton) : Type 0 where
  pub filled : 0 < length a.states
  pub numbered : IsNumbered a
  pub slots : AreSlotsWithin a
  pub patterns : ArePatternsWithin a
  pub groups : AreGroupsOfPatterns a

-- the state, if this byte ends a line in place of a line feed
abbrev pub node_with_terminator : ℕ → Node → Node
node_with_terminator terminator (Look look next) = Look (with_terminator terminator look) next
node_with_terminator terminator node = node

-- the NFA, if this byte ends a line in place of a line feed
abbrev pub nfa_with_terminator : ℕ → Automaton → Automaton
nfa_with_terminator terminator a = record a { states = map (node_with_terminator terminator) a.states }

-- the NFA of one pattern, the empty one, which matches everywhere: the states write its start, then its end, and match
abbrev pub always : Automaton
always = record {
  states = Capture 1 0 ∷ Capture 2 1 ∷ Match 0 ∷ [];
  anchored = 0;
  unanchored = 0;
  patterns = 0 ∷ [];
  groups = [] ∷ [];
  has_empty = true;
  utf8 = false;
}

-- the NFA that matches nothing: no pattern, and one Fail state
abbrev pub never : Automaton
never = record {
  states = Fail ∷ [];
  anchored = 0;
  unanchored = 0;
  patterns = [];
  groups = [];
  has_empty = false;
  utf8 = false;
}
