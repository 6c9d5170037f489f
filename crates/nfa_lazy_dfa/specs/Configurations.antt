-- A scan, and a search, as steps over lists of states, position by position; and positions at which no path that began
-- before is left.
use Rattle.std.specs.Prelude.{◌≡◌, ℕ, zero, suc, ◌+◌, ◌-◌, ◌⊎◌, Bool, true, List, [], ◌++◌, length, Option, None, Some, is_some, option_and_then, option_map, if◌then◌else◌, ◌≤◌, ◌<◌, ◌↔◌, IfSome, MatchBool}
use Rattle.regex_search_core.specs.declared.search.MatchKind.TheVariants.{All}
use Rattle.nfa_paths.specs.Common.{option_to_list, option_or, HalfFound, Search, MatchKind, Automaton, Pair, IsScanAnswer, byte_at, path_half, start_state, starts, LeftmostFirst, holding_at, PathTo, IsMatch, edges, Holding, IsBoundary, is_anchored, IsHalfAnswer, is_utf8_empty, raised, half_at}
use Rattle.nfa_lazy_dfa.specs.Closures.{closure, first_of_each, step, pattern_by_kind, kept}

-- What a scan knows at a position: the states that the bytes so far led to, before their closure; at how many positions
-- from here on a match may start; and the match that was found so far.
pub record Configuration : Type 0 where
  pub states : List ℕ
  pub starts : ℕ
  pub found : Option HalfFound

-- nothing can change what was found: no state is left, and no match may start
pub record IsDead (c : Configuration) : Type 0 where
  pub states : c.states ≡ []
  pub starts : c.starts ≡ 0

-- no later position changes what was found: the configuration is dead, or the scan is `earliest` and found a match
abbrev pub IsSettled : Bool → Configuration → Type 0
IsSettled earliest c = IsDead c ⊎ ((earliest ≡ true) × (is_some c.found ≡ true))

-- at how many later positions a match may start: at none after a match, if it is leftmost first
abbrev pub starts_after : MatchKind → Option ℕ → ℕ → ℕ
starts_after LeftmostFirst (Some pattern) count = 0
starts_after LeftmostFirst None count = count - 1
starts_after All hit count = count - 1

-- the later match, or with `earliest` the earlier one
abbrev pub found_after : Bool → Option HalfFound → Option HalfFound → Option HalfFound
found_after earliest found hit = if earliest then option_or found hit else option_or hit found

-- how many positions the span has, its end included
abbrev pub position_count : Search → ℕ
position_count x = x.end + 1 - x.start

module _ (nfa : Automaton) (x : Search) where
  -- before the first position
  abbrev pub begin : Configuration
  begin = record { states = []; starts = length (starts nfa x); found = None }

  -- the state that a match starts with, if one may start here
  abbrev pub start_here : ℕ → List ℕ
  start_here zero = []
  start_here (suc later) = option_to_list (start_state nfa x.anchored)

  -- the closure at a position: of the states there, and of the start as the last one
  abbrev pub closure_at : ℕ → Configuration → List ℕ
  closure_at at c = closure nfa (holding_at x.haystack at) (c.states ++ start_here c.starts)

  module _ (kind : MatchKind) (earliest : Bool) where
    -- what follows a closure: the match in it counts, and the byte leads on from the states that are kept
    abbrev pub next_configuration : ℕ → List ℕ → Configuration → Configuration
    next_configuration at here c = record {
      states = step nfa (byte_at x at) (kept nfa kind here);
      starts = starts_after kind (pattern_by_kind nfa kind here) c.starts;
      found = found_after earliest c.found (option_map (half_at at) (pattern_by_kind nfa kind here));
    }

    -- the configuration at the next position
    abbrev pub advance : ℕ → Configuration → Configuration
    advance at c = next_configuration at (closure_at at c) c

    -- the configuration after the first n positions of the span
    abbrev pub scanned : ℕ → Configuration
    scanned zero = begin
    scanned (suc n) = advance (x.start + n) (scanned n)

    -- what the whole scan found
    abbrev pub scan_half : Option HalfFound
    scan_half = (scanned (position_count x)).found

-- the pattern and the end of a scan's answer are what the steps find
abbrev pub StepsFindTheAnswer : Type 0
StepsFindTheAnswer =
    (nfa : Automaton) (x : Search) (kind : MatchKind) (earliest : Bool) (path : Option (List Pair))
    → IsScanAnswer nfa x kind earliest path
    → option_and_then (path_half nfa) path ≡ scan_half nfa x kind earliest

-- a configuration that is dead stays as it is
abbrev pub DeadStays : Type 0
DeadStays =
    (nfa : Automaton) (x : Search) (kind : MatchKind) (earliest : Bool) (at : ℕ) (c : Configuration) → IsDead c
    → advance nfa x kind earliest at c ≡ c

-- what was found in a settled configuration stays, and so does that it is settled
abbrev pub FoundStays : Type 0
FoundStays =
    (nfa : Automaton) (x : Search) (kind : MatchKind) (earliest : Bool) (at : ℕ) (c : Configuration)
    → IsSettled earliest c
    → ((advance nfa x kind earliest at c).found ≡ c.found) × IsSettled earliest (advance nfa x kind earliest at c)

-- a configuration with each of its states once, where it is first, leads to the same configuration
abbrev pub AdvancesWithEachOnce : Type 0
AdvancesWithEachOnce =
    (nfa : Automaton) (x : Search) (kind : MatchKind) (earliest : Bool) (at : ℕ) (c : Configuration)
    → advance nfa x kind earliest at (record c { states = first_of_each c.states }) ≡ advance nfa x kind earliest at c

-- no accepting path of the search starts before the position
pub record StartsFrom (nfa : Automaton) (x : Search) (s : ℕ) : Type 0 where
  pub from : (m : Pair) (p : List Pair) (w : PathTo (edges nfa x) (starts nfa x) m p) → IsMatch nfa m → s ≤ w.start.1

-- nothing was found, and the states lead to no byte state, Fail or Match: no path that began before goes on
pub record IsIdle (nfa : Automaton) (holding : Holding) (c : Configuration) : Type 0 where
  pub nothing : c.found ≡ None
  pub closed : closure nfa holding c.states ≡ []

-- No accepting path starts before a position at which the configuration is idle.
abbrev pub IdlePassesStarts : Type 0
IdlePassesStarts =
    (nfa : Automaton) (x : Search) (kind : MatchKind) (earliest : Bool) (n : ℕ)
    → IsIdle nfa (holding_at x.haystack (x.start + n)) (scanned nfa x kind earliest n)
    → StartsFrom nfa x (x.start + n)

-- there is no match, or it ends on a boundary
abbrev pub IsWholeHalf : Search → Option HalfFound → Type 0
IsWholeHalf x found = IfSome found (λ half. IsBoundary x.haystack half.offset)

module _ (nfa : Automaton) (kind : MatchKind) (earliest : Bool) where
  -- the steps find a match that ends inside a codepoint
  pub record FindsSplit (x : Search) : Type 0 where
    pub half : HalfFound
    pub is : scan_half nfa x kind earliest ≡ Some half
    pub splits : ¬ IsBoundary x.haystack half.offset

  -- an anchored search: such a match does not count
  abbrev pub IsKeptHalf : Search → Option HalfFound → Type 0
  IsKeptHalf x None = (scan_half nfa x kind earliest ≡ None) ⊎ FindsSplit x
  IsKeptHalf x (Some half) = (scan_half nfa x kind earliest ≡ Some half) × IsBoundary x.haystack half.offset

  -- any other starts one byte further on until there is no match, or one that ends on a boundary
  pub record IsRestartedHalf (x : Search) (found : Option HalfFound) : Type 0 where
    pub restarts : ℕ
    pub skipped : (i : ℕ) → i < restarts → FindsSplit (raised x i)
    pub is : scan_half nfa (raised x restarts) kind earliest ≡ found
    pub whole : IsWholeHalf x found

  -- what a search by steps finds
  abbrev pub IsStepsHalf : Search → Option HalfFound → Type 0
  IsStepsHalf x found =
      MatchBool (is_utf8_empty nfa)
      (MatchBool (is_anchored x.anchored) (IsKeptHalf x found) (IsRestartedHalf x found))
      (scan_half nfa x kind earliest ≡ found)

-- the half match of a search is what the steps find, and no other
abbrev pub StepsFindTheHalf : Type 0
StepsFindTheHalf =
    (nfa : Automaton) (x : Search) (kind : MatchKind) (earliest : Bool) (found : Option HalfFound)
    → IsHalfAnswer nfa kind earliest x found ↔ IsStepsHalf nfa kind earliest x found
