-- The texts of the lines come after those before.
use Rattle.std.proofs.Common.{◌∙◌, ℕ, ◌++◌, Bor, List, ap, map}
use Rattle.std.proofs.lemmas.List.{map-append}
use Rattle.grep_options.proofs.patterns.push_lines.Goals as goal

pub returns : goal.returns
returns c =
    let text_of : Bor (List ℕ) → List ℕ = λ text. text.now in
    let before = c.args.all.now.items in
    let lines = c.in_ok-lines.lines.items in
    let appended = rw c.deref.ensures.value at c.in_ok-extend_from_slice.ensures.items in
    ap (map text_of) appended ∙ map-append text_of before lines
    ∙ ap (λ (l : List (List ℕ)). map text_of before ++ l) c.in_ok-lines.ensures
