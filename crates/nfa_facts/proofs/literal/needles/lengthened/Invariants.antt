-- Each text so far is longer by a byte of the level.
use Rattle.nfa_paths.proofs.Common.{ℕ, ◌+◌, ◌<◌, List, length, take}
use Rattle.regex_literal.specs.ByteSets.{IsInSet}
use Rattle.nfa_facts.specs.Needles.{BeginsWithOne, texts_now}
use Rattle.nfa_facts.proofs.literal.needles.lengthened.Given as goal

abbrev pub invariant-loop-text : goal.invariant-loop-text
invariant-loop-text l =
    (hay : List ℕ) (count k : ℕ) → BeginsWithOne hay (texts_now (take l.text-index l.texts)) count k
    → k + count < length hay → IsInSet l.level hay (k + count)
    → BeginsWithOne hay (texts_now l.longer.items) (count + 1) k
