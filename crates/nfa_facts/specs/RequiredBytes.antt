-- Bytes that each match of an NFA has, and what it means that a haystack lacks them.
use Rattle.std.specs.Prelude.{◌≡◌, ℕ, ◌<◌, ◌≤◌, List, slice_get, Some, true}
use Rattle.nfa_paths.specs.Common.{Automaton, Search}
use Rattle.nfa_engines.specs.Laws.{MatchesSomething}
use Rattle.nfa_engines.specs.StartLaws.{anchored_at}
use Rattle.nfa_facts.specs.Prefixes.{OccursBefore}
use Rattle.nfa_facts.specs.declared.literal.required_bytes.RequiredBytes.{RequiredBytes}

-- The haystack has the bytes at the position or after it, all before the end. If no match has a line feed before them,
-- none is between.
pub record HasAhead (r : RequiredBytes) (haystack : List ℕ) (end : ℕ) (at : ℕ) : Type 0 where
  pub place : ℕ
  pub onward : at ≤ place
  pub here : OccursBefore haystack end r.bytes.items place
  pub line : r.on_line ≡ true → (k : ℕ) → at ≤ k → k < place → ¬ (slice_get haystack k ≡ Some 10)

-- each match has the bytes: wherever an anchored search has an accepting path, they are ahead, inside the span
pub record IsRequired (nfa : Automaton) (r : RequiredBytes) : Type 0 where
  pub has : (x : Search) (at : ℕ) → MatchesSomething nfa (anchored_at x at) → HasAhead r x.haystack x.end at

-- they are ahead of no position from one on
pub record LacksFrom (r : RequiredBytes) (haystack : List ℕ) (end : ℕ) (from : ℕ) : Type 0 where
  pub none : (k : ℕ) → from ≤ k → ¬ HasAhead r haystack end k

-- they are ahead of no position from one up to another
pub record LacksBefore (r : RequiredBytes) (haystack : List ℕ) (end : ℕ) (from at : ℕ) : Type 0 where
  pub onward : from ≤ at
  pub none : (k : ℕ) → from ≤ k → k < at → ¬ HasAhead r haystack end k
