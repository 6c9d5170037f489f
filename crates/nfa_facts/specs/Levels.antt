-- The bytes that each match has at its first positions, and where a haystack lacks them.
use Rattle.std.specs.Prelude.{◌≡◌, ℕ, ◌<◌, ◌≤◌, All, Bool, List, None, Some, false, length, slice_index_or, slice_range, true}
use Rattle.regex_literal.specs.Find.{AnyOccursAt}
use Rattle.regex_literal.specs.Ladders.{Admits}
use Rattle.nfa_paths.specs.Common.{Automaton, In, Node, Search, pattern_of, target_on}
use Rattle.nfa_scan_core.specs.FirstBytes.{epsilon_targets}
use Rattle.nfa_engines.specs.Laws.{MatchesSomething}
use Rattle.nfa_engines.specs.StartLaws.{anchored_at}
use Rattle.nfa_facts.specs.Reached.{HasOtherTargets}
use Rattle.nfa_facts.specs.declared.literal.levels.Levels.{Levels}
use Rattle.nfa_facts.specs.declared.literal.levels.Levels.TheVariants.{Bytes, Texts}

-- the level has the byte
abbrev pub Has : List Bool → ℕ → Type 0
Has level b = slice_index_or level b false ≡ true

-- the new level has each byte of the old one
pub record Grows (old new : List Bool) : Type 0 where
  pub still : (b : ℕ) → Has old b → Has new b

-- the level has each byte that the state reads
pub record HasBytes (level : List Bool) (node : Node) : Type 0 where
  pub bytes : (b t : ℕ) → b < 256 → target_on node b ≡ Some t → Has level b

-- The state is no match. One list has the states that it leads to without a byte, another its targets on bytes, and the
-- level these bytes.
pub record IsFilled (here next : List ℕ) (level : List Bool) (node : Node) : Type 0 where
  pub plain : pattern_of node ≡ None
  pub without : All (λ s. In s here) (epsilon_targets node)
  pub over : HasOtherTargets next None node
  pub reads : HasBytes level node

-- the levels admit the position: it passes each test of bytes, or one of the texts is there
abbrev pub AdmitsAt : Levels → List ℕ → ℕ → Type 0
AdmitsAt (Bytes ladder) hay k = Admits ladder hay k
AdmitsAt (Texts needles) hay k = AnyOccursAt hay needles k

-- wherever an anchored search has an accepting path, the levels admit the position, in the haystack up to the end of
-- the span
pub record AdmitsMatches (nfa : Automaton) (levels : Levels) : Type 0 where
  pub admits : (x : Search) (at : ℕ) → x.end ≤ length x.haystack → All (λ b. b < 256) x.haystack
      → MatchesSomething nfa (anchored_at x at) → AdmitsAt levels (slice_range x.haystack 0 x.end) at

-- the levels admit no position from one on, in the haystack up to an end
pub record AdmitsNoneFrom (levels : Levels) (haystack : List ℕ) (from end : ℕ) : Type 0 where
  pub none : (k : ℕ) → from ≤ k → k ≤ end → ¬ AdmitsAt levels (slice_range haystack 0 end) k

-- they admit none from one up to another
pub record AdmitsNoneBefore (levels : Levels) (haystack : List ℕ) (from end at : ℕ) : Type 0 where
  pub onward : from ≤ at
  pub none : (k : ℕ) → from ≤ k → k < at → ¬ AdmitsAt levels (slice_range haystack 0 end) k
