-- The loop goes on by a word, and ends if no word is left.
use Rattle.std.proofs.Common.{rules, arith}
use Rattle.program_text.proofs.SplitLemmas.{ends, goes-on}
use Rattle.program_text.proofs.split.split_values.Goals as goal

pub loop-word-preserved : goal.loop-word-preserved
loop-word-preserved c =
    let option = c.args.option in
    rw c.in_ok-mode.ensures.mode
    (goes-on option.letter option.short.now option.long.now c.args.words.now _ _ _ c.loop-word.mode
    c.loop-word.word-index _
    (search rules) c.loop-word.invariant c.in_ok-mode.ensures.words)

pub returns : goal.returns
returns c =
    let option = c.args.option in
    ends option.letter option.short.now option.long.now c.args.words.now _ _ c.loop-word.mode c.loop-word.word-index
    (omega (arith, c.loop-word-test.false)) c.loop-word.invariant
