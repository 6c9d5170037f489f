-- The loop goes on by a word, and ends if no word is left.
use Rattle.std.proofs.Common.{rules, arith}
use Rattle.program_text.specs.Parting.{as_operand, as_option}
use Rattle.program_text.proofs.PartLemmas.{ends, goes-on}
use Rattle.program_text.proofs.parted.part_words.Goals as goal

pub loop-word-preserved : goal.loop-word-preserved
loop-word-preserved c =
    let words = c.args.words.now in
    record {
      options = rw c.in_ok-mode.ensures.mode
          (goes-on c.args.valued.now as_option words _ _ _ c.loop-word.mode c.loop-word.word-index _ (search rules)
          c.loop-word.invariant.options c.in_ok-mode.ensures.options);
      operands = rw c.in_ok-mode.ensures.mode
          (goes-on c.args.valued.now as_operand words _ _ _ c.loop-word.mode c.loop-word.word-index _ (search rules)
          c.loop-word.invariant.operands c.in_ok-mode.ensures.operands);
    }

pub returns-clause-options : goal.returns-clause-options
returns-clause-options c =
    ends c.args.valued.now as_option c.args.words.now _ _ c.loop-word.mode c.loop-word.word-index
    (omega (arith, c.loop-word-test.false)) c.loop-word.invariant.options

pub returns-clause-operands : goal.returns-clause-operands
returns-clause-operands c =
    ends c.args.valued.now as_operand c.args.words.now _ _ c.loop-word.mode c.loop-word.word-index
    (omega (arith, c.loop-word-test.false)) c.loop-word.invariant.operands
