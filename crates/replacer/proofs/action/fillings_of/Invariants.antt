-- The templates so far were read, each with the groups of its pattern.
use Rattle.std.proofs.Common.{◌≡◌, ◌<◌, ℕ, [], length, slice_index_or}
use Rattle.std.specs.List.{AllZip}
use Rattle.replacer.specs.Fillings.{IsPiece, pieces_in}
use Rattle.replacer.specs.Stretches.{all_stretched}
use Rattle.replacer.proofs.action.fillings_of.Given as goal

abbrev pub invariant-loop-number : goal.invariant-loop-number
invariant-loop-number l = record {
  count : length (pieces_in l.fillings.items) ≡ l.number;
  each : (k : ℕ) → k < l.number
      → AllZip (IsPiece l.regex.choice.nfa.groups k) (slice_index_or (all_stretched l.templates) k [])
      (slice_index_or (pieces_in l.fillings.items) k []);
}
