-- The lines of the texts so far were appended.
use Rattle.std.proofs.Common.{◌≡◌, ◌++◌, map, take}
use Rattle.std.specs.List.{flat_map}
use Rattle.grep_options.specs.Texts.{lines_in}
use Rattle.grep_options.proofs.patterns.push_given.Given as goal

abbrev pub invariant-loop-text : goal.invariant-loop-text
invariant-loop-text l = map (λ text. text.now) l.all.items
    ≡ map (λ text. text.now) l.fn.all.items ++ flat_map (λ text. lines_in text.now) (take l.text-index l.given)
