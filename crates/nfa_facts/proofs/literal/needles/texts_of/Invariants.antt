-- Where the levels fit, a text with a byte of each level so far is.
use Rattle.nfa_paths.proofs.Common.{ℕ, List}
use Rattle.regex_literal.specs.Levels.{FitsLevels}
use Rattle.nfa_facts.specs.Needles.{BeginsWithOne, texts_now}
use Rattle.nfa_facts.proofs.literal.needles.texts_of.Given as goal

abbrev pub invariant-loop-level : goal.invariant-loop-level
invariant-loop-level l =
    (hay : List ℕ) (k : ℕ) → FitsLevels hay l.levels k → BeginsWithOne hay (texts_now l.texts.items) l.level-index k
