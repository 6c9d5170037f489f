-- The words so far, with those that come of the words that are left, are those of the command line.
use Rattle.std.proofs.Common.{◌≡◌, ◌++◌, drop, map}
use Rattle.program_text.specs.Splitting.{split_from, split_words}
use Rattle.program_text.proofs.split.split_values.Given as goal

abbrev pub invariant-loop-word : goal.invariant-loop-word
invariant-loop-word l =
    split_words l.option.letter l.option.short.now l.option.long.now (map (λ word. word.now) l.words)
    ≡ map (λ word. word.now) l.split.items
    ++ split_from l.option.letter l.option.short.now l.option.long.now l.mode
    (map (λ word. word.now) (drop l.word-index l.words))
