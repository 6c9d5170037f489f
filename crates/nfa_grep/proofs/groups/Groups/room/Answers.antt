-- The first line that is kept is not printed, since the next ones are not selected.
use Rattle.nfa_paths.proofs.Common.{vec_items, ◌≡◌, ◌≤◌, ◌∷◌, ap, arith, length, map, length-map}
use Rattle.nfa_grep.specs.Going.{kept_texts}
use Rattle.nfa_grep.proofs.GroupedLemmas.{drops}
use Rattle.nfa_grep.proofs.groups.Groups.room.Goals as goal

pub returns-in-Some-clause-printed : goal.returns-in-Some-clause-printed
returns-in-Some-clause-printed c = λ text later.
    let old = c.args.self.now in
    let kept = c.pop_front.new.self.items in
    let is : old.kept.items ≡ c.in-Some.text ∷ kept = rw c.in-Some.is at c.pop_front.ensures.items in
    let texts-are : kept_texts old ≡ vec_items c.in-Some.text ∷ map vec_items kept = ap (map vec_items) is in
    let enough : old.context.before ≤ length (kept_texts old) =
    omega (arith, c.if-len-self.false, c.len.ensures, old.kept.ok.0, length-map old.kept.items vec_items) in
    drops old.context old.used old.gap old.left (kept_texts old) (vec_items c.in-Some.text) (map vec_items kept) text
    later c.requires.none_left texts-are enough
