-- The options so far, with those of the words that are left, are those of the command line, and so are the other words.
use Rattle.std.proofs.Common.{◌≡◌}
use Rattle.program_text.specs.Parting.{as_operand, as_option, operands_in, options_in}
use Rattle.program_text.proofs.PartLemmas.{with_left}
use Rattle.program_text.proofs.parted.part_words.Given as goal

abbrev pub invariant-loop-word : goal.invariant-loop-word
invariant-loop-word l = record {
  options : options_in l.valued l.words
      ≡ with_left l.valued as_option l.words l.parted.options.items l.mode l.word-index;
  operands : operands_in l.valued l.words
      ≡ with_left l.valued as_operand l.words l.parted.operands.items l.mode l.word-index;
}
