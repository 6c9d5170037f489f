-- The texts so far are those of the first words.
use Rattle.std.proofs.Common.{◌≡◌, ℕ, List, map, take}
use Rattle.std.specs.Borrow.{Bor}
use Rattle.program_text.specs.declared.words.Word.{Word}
use Rattle.program_text.proofs.words.texts.Given as goal

abbrev pub invariant-loop-word : goal.invariant-loop-word
invariant-loop-word l =
    map (λ (text : Bor (List ℕ)). text.now) l.texts.items
    ≡ map (λ (word : Word). word.bytes.now) (take l.word-index l.words)
