-- What a row of a lazy DFA stands for, and where a byte leads.
use Rattle.std.specs.Prelude.{◌≡◌, ℕ, ◌-◌, Bool, true, not, ◌&&◌, List, [], ◌∷◌, ◌++◌, Option, None, Some, is_some, map, option_map, slice_get, if◌then◌else◌}
use Rattle.regex_search_core.specs.declared.search.MatchKind.TheVariants.{All}
use Rattle.nfa_paths.specs.Common.{option_to_list, number_of, Search, MatchKind, Automaton, In, start_state, LeftmostFirst, Holding, holding_at}
use Rattle.nfa_lazy_dfa.specs.Closures.{closure, kept, pattern_by_kind, state_pattern, step}
use Rattle.nfa_lazy_dfa.specs.Configurations.{Configuration, start_here}
use Rattle.nfa_lazy_dfa.specs.Assertions.{IsRead, SameLooks, sees}
use Rattle.nfa_lazy_dfa.specs.declared.follow.Stand.{Stand}

-- The NFA states that the bytes so far led to, with the start if a match may start here; a byte like the last one, if
-- there is one and an assertion may read it; whether a match may start at the next position, if none is found here;
-- the pattern that matched before the last byte; and for `All` the patterns of all matches there.
pub record Stance : Type 0 where
  pub states : List ℕ
  pub before : Option ℕ
  pub more : Bool
  pub hit : Option ℕ
  pub hits : List ℕ

-- what the stand's fields say
abbrev pub stance_of : Stand → Stance
stance_of s = record {
  states = s.states.items;
  before = s.before;
  more = s.more;
  hit = option_map number_of s.hit;
  hits = map number_of s.hits.items;
}

-- where a scan begins: in its start state, with no match
abbrev pub first_stance : ℕ → Option ℕ → Bool → Stance
first_stance start before more = record {
  states = start ∷ [];
  before = before;
  more = more;
  hit = None;
  hits = [];
}

-- whether a later match may start if this one was found
abbrev pub goes_on : MatchKind → Option ℕ → Bool
goes_on LeftmostFirst hit = not (is_some hit)
goes_on All hit = true

module _ (nfa : Automaton) where
  -- the two lists have the same closures, and only an empty list stands for none
  pub record Covers (states list : List ℕ) : Type 0 where
    pub same : (holding : Holding) → closure nfa holding states ≡ closure nfa holding list
    pub none : states ≡ [] → list ≡ []

  -- the patterns of the Match states, in order
  abbrev pub patterns_in : List ℕ → List ℕ
  patterns_in [] = []
  patterns_in (s ∷ states) = option_to_list (state_pattern nfa s) ++ patterns_in states

  -- the same for `All`; leftmost first does without
  abbrev pub patterns_for : MatchKind → List ℕ → List ℕ
  patterns_for LeftmostFirst states = []
  patterns_for All states = patterns_in states

  -- the start, if a match may start
  abbrev pub start_if : Bool → List ℕ
  start_if more = if more then nfa.anchored ∷ [] else []

  -- the closure of the states before this byte, or at the end of the haystack
  abbrev pub here : Stance → Option ℕ → List ℕ
  here s after = closure nfa (sees s.before after) s.states

  module _ (kind : MatchKind) where
    -- the pattern that matches here
    abbrev pub hit_here : Stance → Option ℕ → Option ℕ
    hit_here s after = pattern_by_kind nfa kind (here s after)

    -- for `All` the patterns of all matches here
    abbrev pub hits_here : Stance → Option ℕ → List ℕ
    hits_here s after = patterns_for kind (here s after)

    -- a search may read the byte, and the byte leads from s to t
    pub record IsNext (s : Stance) (byte : ℕ) (t : Stance) : Type 0 where
      pub read : IsRead nfa (Some byte)
      pub hit : t.hit ≡ hit_here s (Some byte)
      pub hits : t.hits ≡ hits_here s (Some byte)
      pub more : t.more ≡ (s.more && goes_on kind (hit_here s (Some byte)))
      pub states : Covers t.states (step nfa (Some byte) (kept nfa kind (here s (Some byte))) ++ start_if t.more)
      pub held : (q : ℕ) → In q (step nfa (Some byte) (kept nfa kind (here s (Some byte)))) → In q t.states
      pub before : (after : Option ℕ) → IsRead nfa after → SameLooks nfa (sees t.before after) (sees (Some byte) after)

  -- what s stands for at a position of a scan
  pub record StandsFor (x : Search) (at : ℕ) (s : Stance) (c : Configuration) : Type 0 where
    pub states : Covers s.states (c.states ++ start_here nfa x c.starts)
    pub held : (q : ℕ) → In q c.states → In q s.states
    pub sees : IsRead nfa (slice_get x.haystack at)
        → SameLooks nfa (sees s.before (slice_get x.haystack at)) (holding_at x.haystack at)
    pub starts : c.starts - 1 ≡ (if s.more then x.end - at else 0)
    pub begins : s.more ≡ true → start_state nfa x.anchored ≡ Some nfa.anchored
    pub some : is_some (start_state nfa x.anchored) ≡ true
