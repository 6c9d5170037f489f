-- What the calls of an iterator over the half matches of an NFA have given so far.
use Rattle.std.specs.Prelude.{List, map, All, None, Option}
use Rattle.nfa_search_base.specs.Common.{EachRunFrom, ItemsMapTo, HalfFound, half_found_of, Search, HalfMatch, MatchKind, Automaton, RunsGive, GivesFirst, GivesNext}
use Rattle.nfa_choice.specs.HalfLists.{AreFirstHalves, AreHalves, AreRising, IsHalfInside}

module _ (nfa : Automaton) (kind : MatchKind) (x : Search) where
  -- these items are the first half matches of x
  abbrev pub AreFirst : List HalfMatch → Type 0
  AreFirst xs = AreFirstHalves nfa kind x.earliest x (map half_found_of xs)

  -- these items are all half matches of x
  abbrev pub AreAll : List HalfMatch → Type 0
  AreAll xs = AreHalves nfa kind x.earliest x (map half_found_of xs)

  module _ {T : Type 0} (steps : T → Option HalfMatch → T → Type 0) where
    -- the items of each run of calls are the first half matches of x, and all of them if the run reaches `None`
    abbrev pub HalvesRun : T → Type 0
    HalvesRun s = RunsGive steps AreFirst AreAll s

    -- the items so far are the first half matches of x
    abbrev pub HalvesFirst : T → Type 0
    HalvesFirst s = GivesFirst steps AreFirst s

    -- after an item, the items so far with that item are the first half matches
    abbrev pub HalvesNext : T → Type 0
    HalvesNext s = GivesNext steps AreFirst s

    -- If a list is that of the half matches of x, the items of each run are its first elements, and all of them if the
    -- run reaches `None`.
    abbrev pub HalvesAre : T → Type 0
    HalvesAre s = EachRunFrom steps s (λ p. (all : List HalfFound) → AreHalves nfa kind x.earliest x all
        → ItemsMapTo p half_found_of all)

    -- the offsets of each run are in the span and rise
    abbrev pub HalvesRise : T → Type 0
    HalvesRise s = EachRunFrom steps s (λ p. AreRising x None (map half_found_of p.items)
        × All (λ m. IsHalfInside x (half_found_of m)) p.items)

    -- all that the calls of an iterator over the half matches of x give
    pub record HalvesGiven (s : T) : Type 0 where
      pub runs : HalvesRun s
      pub first : HalvesFirst s
      pub next : HalvesNext s
      pub are : HalvesAre s
      pub rise : HalvesRise s
