-- Iterators over half matches that search with an engine. Its value is a C, `engine` is the PikeVM that answers as it
-- does, and a search does `Work`.
use Rattle.std.specs.Prelude.{List, map, None, Ok, Option, option_map}
use Rattle.nfa_search_base.specs.Common.{Yields, HalfFound, half_found_of, Search, HalfMatch, DoesSearch, Leaves, LeavesAtEnd, WithCache, StepsWith, TakesStepWith, GivesKept, GivesItem, Answer, half_span_of}
use Rattle.nfa_pikevm.specs.Engines.{Pike, kind_of}
use Rattle.nfa_choice.specs.HalfLists.{AnswersHalf}

-- the answer of one search: the half match of the kind and its `earliest`, and never an error
abbrev pub TellsHalf : Pike → Search → Answer HalfFound → Type 0
TellsHalf vm x a = AnswersHalf vm.nfa (kind_of vm) x.earliest x a

module _ {C : Type 0} (engine : C → Pike) (Work : Search → C → C → Type 0) where
  -- an iteration over the half matches of x led from one engine to the other only by its searches, as far as it went
  abbrev pub HalvesOn : Search → C → C → Type 0
  HalvesOn x old new = Leaves half_span_of (DoesSearch (TellsHalf (engine old)) (λ y a. Work y)) x old new

  -- the same, and the iteration went to its end, past these half matches
  abbrev pub HalvesToEnd : Search → List HalfFound → C → C → Type 0
  HalvesToEnd x ms old new =
      LeavesAtEnd half_span_of (DoesSearch (TellsHalf (engine old)) (λ y a. Work y)) x ms old new

  -- one search may answer this
  abbrev pub AsksHalf : {A : Type 0} → WithCache A C → Search → Answer HalfFound → WithCache A C → Type 0
  AsksHalf s x a t = DoesSearch (TellsHalf (engine s.cache)) (λ y b. Work y) s.cache x a t.cache

  -- An iterator T with an A, and its steps.
  module _ {A T : Type 0} (steps : T → StepsWith A C) where
    -- a call
    pub record HalvesNextBy (s : T) (r : Option HalfMatch) (t : T) : Type 0 where
      pub takes : TakesStepWith half_span_of AsksHalf (λ _. GivesItem half_found_of) (steps s)
          (option_map (λ m. Ok m) r) (steps t)

    -- The calls change the engine only by the searches of an iteration over x. At `None` the iteration went to its end,
    -- past the half matches so far.
    pub record HalvesLead (x : Search) (s : T) : Type 0 where
      pub on : GivesKept HalvesNextBy (λ p q. HalvesOn x (steps p).cache.now (steps q).cache.now) s
      pub to_end : (xs : List HalfMatch) (t u : T) → Yields HalvesNextBy s xs t → HalvesNextBy t None u
          → HalvesToEnd x (map half_found_of xs) (steps s).cache.now (steps u).cache.now
