-- How sinks take the matches of a position, what they become, and what a set of patterns gains there.
use Rattle.std.specs.Prelude.{◌≡◌, ◌↔◌, ◌⊎◌, ℕ, ◌<◌, ◌≤◌, Bool, true, false, not, ◌&&◌, ◌||◌, nat_lt, nat_le, List, [], ◌∷◌, None, Some, length, All, slice_index, ◌==◌}
use Rattle.nfa_paths.specs.Common.{option_map_or, Search, number_of, PatternID, Automaton, Pair, is_match, Slots, with_pattern, edges, is_utf8_empty, Hit, HoldsMatch, first_match, before_match, HoldsPattern, pattern_at}
use Rattle.nfa_pikevm_scan.specs.States.{Frontier, Moment, moves, StatesGive, TurnsGive}
use Rattle.nfa_pikevm_scan.specs.declared.sink.SlotsSink.{SlotsSink}
use Rattle.nfa_pikevm_scan.specs.declared.overlap.PatternSink.{PatternSink}
use Rattle.nfa_pikevm_scan.specs.declared.frame.FollowEpsilon.{FollowEpsilon}

-- the row and its pattern are kept, and without `past_match` the position ends
pub record SlotsSinkTakes (old : SlotsSink) (pattern : PatternID) (row : Slots) (ended : Bool) (new : SlotsSink)
    : Type 0 where
  pub slots : new.slots.now ≡ row
  pub hit : new.hit ≡ Some pattern
  pub past : new.past_match ≡ old.past_match
  pub ends : ended ≡ not old.past_match

-- whether a match of the pattern counts: it may end at its position, and the set has room for the pattern
abbrev pub counts : PatternSink → PatternID → Bool
counts s pattern = s.permitted && nat_lt (number_of pattern) (length s.patterns.now)

-- the set gains the pattern of a match that counts, and without `past_match` the position ends
pub record PatternSinkTakes (old : PatternSink) (pattern : PatternID) (row : Slots) (ended : Bool) (new : PatternSink)
    : Type 0 where
  pub other : counts old pattern ≡ false → new.patterns.now ≡ old.patterns.now
  pub put : counts old pattern ≡ true → new.patterns.now ≡ with_pattern old.patterns.now (number_of pattern)
  pub met : new.met ≡ (counts old pattern || old.met)
  pub permitted : new.permitted ≡ old.permitted
  pub past : new.past_match ≡ old.past_match
  pub ends : ended ≡ (counts old pattern && not old.past_match)

-- All matches of a front are taken, in order. A match that ends the position is the last pair of the front.
pub data Takes {V : Type 0} (nfa : Automaton) (takes : V → PatternID → Slots → Bool → V → Type 0)
    : Frontier → V → Bool → V → Type 0 where
  none : {v : V} → Takes nfa takes [] v false v
  plain : {a : Pair × Slots} {front : Frontier} {v w : V} {ended : Bool} → is_match nfa a.0 ≡ false
      → Takes nfa takes front v ended w → Takes nfa takes (a ∷ front) v ended w
  taken : {a : Pair × Slots} {front : Frontier} {v u w : V} {ended : Bool} (pattern : PatternID)
      → pattern_at nfa a.0 ≡ Some (number_of pattern) → takes v pattern a.1 false u
      → Takes nfa takes front u ended w → Takes nfa takes (a ∷ front) v ended w
  ends : {a : Pair × Slots} {v w : V} (pattern : PatternID) → pattern_at nfa a.0 ≡ Some (number_of pattern)
      → takes v pattern a.1 true w → Takes nfa takes (a ∷ []) v true w

module _ (nfa : Automaton) (x : Search) {V : Type 0} (takes : V → PatternID → Slots → Bool → V → Type 0) where
  -- The result of following a state, and the frames of the stack, up to the position's next byte: a front, whose moves
  -- are in memory and whose matches were taken. If the position goes on, no frame is left.
  pub record ClosureGives (at s : ℕ) (before : Moment) (old : V) (ended : Bool) (after : Moment) (new : V) : Type 0
    where
      pub stack : List FollowEpsilon
      pub slots : Slots
      pub gives : TurnsGive nfa x at s before (λ front. Takes nfa takes front old ended new) None
          (record after { stack = stack; slots = slots })
      pub whole : ended ≡ false → stack ≡ []

  -- The same for the states at a position, with no marks before, but for those that are left.
  pub record ClosuresLeadTo (at : ℕ) (before : Moment) (old : V) (ended : Bool) (left : List (ℕ × Slots))
      (after : Moment) (new : V) : Type 0 where
    pub front : Frontier
    pub gives : StatesGive nfa x at before (ended ≡ false) left front after
    pub takes_all : Takes nfa takes front old ended new

  -- The same for all states at a position: if it goes on, no state is left.
  pub record ClosuresGive (at : ℕ) (before : Moment) (old : V) (after : Moment) (new : V) : Type 0 where
    pub ended : Bool
    pub left : List (ℕ × Slots)
    pub leads : ClosuresLeadTo at before old ended left after new
    pub whole : ended ≡ false → left ≡ []

-- whether a match may end at the position: it splits no codepoint, or the NFA is not `is_utf8_empty`
unfoldable pub permits : Automaton → Search → ℕ → Bool
permits nfa x at =
    not (is_utf8_empty nfa) || ((at == length x.haystack) || (nat_lt at (length x.haystack) &&
    (nat_le (slice_index x.haystack at) 0x7F || nat_le 0xC0 (slice_index x.haystack at))))

-- whether the pair is a match that may end at its position, of a pattern that a set of this capacity has room for
unfoldable pub wants : Automaton → Search → ℕ → Pair → Bool
wants nfa x capacity v = permits nfa x v.1 && option_map_or (λ k. nat_lt k capacity) (pattern_at nfa v) false

-- The set gains each pattern below the capacity for which the front has a wanted pair. `met` says whether there is one.
pub record AddsAllPatterns (nfa : Automaton) (wanted : Pair → Bool) (front : Frontier) (old : List Bool) (met : Bool)
    (new : List Bool) : Type 0 where
  pub capacity : length new ≡ length old
  pub gained : (k : ℕ) → HoldsPattern new k ↔ (HoldsPattern old k
      ⊎ ((k < length old) × HoldsMatch wanted (pattern_at nfa) k front))
  pub some : met ≡ true → (k : ℕ) × (k < length old) × HoldsMatch wanted (pattern_at nfa) k front
  pub none : met ≡ false → (k : ℕ) → k < length old → HoldsMatch wanted (pattern_at nfa) k front → ⊥

-- the set gains the pattern of the first wanted pair, if there is one
abbrev pub AddsFirstPattern : Automaton → Hit → List Bool → Bool → List Bool → Type 0
AddsFirstPattern nfa None old met new = (met ≡ false) × (new ≡ old)
AddsFirstPattern nfa (Some a) old met new = (met ≡ true)
    × ((k : ℕ) × (pattern_at nfa a.0 ≡ Some k) × (new ≡ with_pattern old k))

-- what the set gains at a position: the patterns of all wanted pairs with `past`, otherwise that of the first one
abbrev pub AddsPatterns : Automaton → Bool → (Pair → Bool) → Frontier → List Bool → Bool → List Bool → Type 0
AddsPatterns nfa true wanted front old met new = AddsAllPatterns nfa wanted front old met new
AddsPatterns nfa false wanted front old met new = AddsFirstPattern nfa (first_match wanted front) old met new

module _ (nfa : Automaton) (x : Search) where
  -- For a set of capacity n: the result of following all states at a position, and what the set gains. Rows are empty.
  pub record NextsOverlappingGive (at : ℕ) (past : Bool) (n : ℕ) (old : Moment) (set : List Bool) (hit : Bool)
      (new : Moment) (gathered : List Bool) : Type 0 where
    pub front : Frontier
    pub gives : StatesGive nfa x at old ((past ≡ true) ⊎ (hit ≡ false)) [] front new
    pub rows : All (λ i. length i.1 ≤ 0) old.kept
    pub gathers : AddsPatterns nfa past (wants nfa x n) front set hit gathered
    pub cut : past ≡ false → moves (edges nfa x) (before_match (wants nfa x n) front) ≡ moves (edges nfa x) front
