-- The lines that are kept are printed before the line.
use Rattle.nfa_paths.proofs.Common.{vec_items, flat_map-map, ◌≡◌, ◌∙◌, ℕ, ◌++◌, List, [], ap, false, map, sym, true, flat_map}
use Rattle.nfa_grep.specs.Going.{kept_items, kept_texts}
use Rattle.nfa_grep.specs.Printed.{between, grouped}
use Rattle.nfa_grep.proofs.GroupedLemmas.{begins, begun}
use Rattle.nfa_grep.proofs.groups.Groups.begin_group.Goals as goal

pub returns-clause-printed : goal.returns-clause-printed
returns-clause-printed c = λ text later.
    let old = c.args.self.now in
    let context = old.context in
    let ahead = old.ahead.items in
    let rest = grouped context true false context.after later in
    let line = between context old.used old.gap in
    let kept = flat_map vec_items old.kept.items in
    let all : flat_map (λ (t : List ℕ). t) (kept_texts old) ≡ kept =
    flat_map-map (λ (t : List ℕ). t) vec_items old.kept.items in
    let empty : map vec_items c.clear.new.self.items ≡ [] = ap (map vec_items) c.clear.ensures.items in
    ap (λ l. ahead ++ l) (begins context old.used old.gap old.left (kept_texts old) text later
    c.requires.in_order.within c.requires.in_order.printing)
    ∙ ap (λ (l : List ℕ). ahead ++ (line ++ (l ++ (text ++ rest)))) all
    ∙ begun ahead _ c.append_all.new.out.items line kept text rest c.in_ok-append_between.ensures
    c.in_ok-append_all.ensures
    ∙ ap (λ (ts : List (List ℕ)). c.append_all.new.out.items ++ (text
    ++ grouped context true false context.after (kept_items ts ++ later))) (sym empty)
