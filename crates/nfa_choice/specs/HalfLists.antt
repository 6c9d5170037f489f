-- The half matches of a search as one list, from left to right. It is defined by the steps only.
use Rattle.std.specs.Prelude.{ℕ, ◌<◌, ◌≤◌, Bool, List, [], ◌∷◌, map, Option, Some, Ok, Err, ⊤}
use Rattle.nfa_search_base.specs.Common.{ForSome, HalfFound, Search, MatchKind, Automaton, IsHalfAnswer, Fails, ItemsLast, ItemsNext, Answer, IterState, fresh, half_span_of}

-- the offset is in the span
pub record IsHalfInside (x : Search) (m : HalfFound) : Type 0 where
  pub from : x.start ≤ m.offset
  pub to : m.offset ≤ x.end

-- each offset is in the span, and greater than the one before
abbrev pub AreRising : Search → Option ℕ → List HalfFound → Type 0
AreRising x last [] = ⊤
AreRising x last (m ∷ ms) = IsHalfInside x m × ForSome last (λ e. e < m.offset) × AreRising x (Some m.offset) ms

module _ (nfa : Automaton) (kind : MatchKind) (earliest : Bool) where
  -- a search gives its half match, and never fails
  abbrev pub AnswersHalf : Search → Answer HalfFound → Type 0
  AnswersHalf x (Ok half) = IsHalfAnswer nfa kind earliest x half
  AnswersHalf x (Err error) = ⊥

  -- these are the next half matches from w on, in order
  abbrev pub HalvesComeNext : IterState → List HalfFound → Type 0
  HalvesComeNext w ms = ItemsNext half_span_of AnswersHalf (Fails half_span_of AnswersHalf) w (map (λ m. Ok m) ms)

  -- these are the last half matches
  abbrev pub HalvesComeLast : IterState → List HalfFound → Type 0
  HalvesComeLast w ms = ItemsLast half_span_of AnswersHalf (Fails half_span_of AnswersHalf) w (map (λ m. Ok m) ms)

  -- these are the first half matches of x
  pub record AreFirstHalves (x : Search) (ms : List HalfFound) : Type 0 where
    pub come : HalvesComeNext (fresh x) ms

  -- these are all half matches of x
  pub record AreHalves (x : Search) (ms : List HalfFound) : Type 0 where
    pub come : HalvesComeLast (fresh x) ms
