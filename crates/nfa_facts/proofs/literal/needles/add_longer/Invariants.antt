-- The text is longer by each byte of the level so far.
use Rattle.nfa_paths.proofs.Common.{ℕ, ◌+◌, ◌<◌, List, get_or, length}
use Rattle.regex_literal.specs.ByteSets.{IsInSet}
use Rattle.regex_literal.specs.Find.{OccursAt}
use Rattle.nfa_facts.specs.Needles.{BeginsWithOne, texts_now}
use Rattle.nfa_facts.proofs.literal.needles.add_longer.Given as goal

abbrev pub invariant-loop-byte : goal.invariant-loop-byte
invariant-loop-byte l = record {
  keeps : (hay : List ℕ) (count k : ℕ) → BeginsWithOne hay (texts_now l.fn.longer.items) count k
      → BeginsWithOne hay (texts_now l.longer.items) count k;
  adds : (hay : List ℕ) (k : ℕ) → OccursAt hay l.text k → k + length l.text < length hay
      → IsInSet l.level hay (k + length l.text) → get_or hay (k + length l.text) 0 < l.byte
      → BeginsWithOne hay (texts_now l.longer.items) (length l.text + 1) k;
}
