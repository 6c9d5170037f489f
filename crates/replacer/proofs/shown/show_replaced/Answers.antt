-- The captures are those of the first hits.
use Rattle.std.proofs.Common.{rules, ◌≡◌, ◌∙◌, ◌++◌, ℕ, List, ap, length}
use Rattle.regex_search_core.specs.Slots.{Captured}
use Rattle.replacer.specs.Hits.{captured_by}
use Rattle.replacer.specs.Fillings.{pieces_in, put_from}
use Rattle.replacer.proofs.PrintedLemmas.{left-caught}
use Rattle.replacer.proofs.shown.show_replaced.Goals as goal

pub returns-clause-text : goal.returns-clause-text
returns-clause-text c = λ pattern re hits of all.
    c.in_ok-extend_from_slice.ensures.items
    ∙ ap (λ (l : List ℕ). l ++ c.args.line.end.now)
    (c.in_ok-text.ensures
    ∙ ap (λ (cs : List Captured). put_from c.args.line.text.now (pieces_in c.args.fillings.now) 0 cs)
    (c.in_ok-caught.ensures.meant pattern re hits of all))

pub returns-clause-left : goal.returns-clause-left
returns-clause-left c = λ pattern re hits of all.
    let count : c.len.result ≡ length c.in_ok-caught.caught.items = search rules in
    c.left_after-left.ensures
    ∙ left-caught (captured_by c.args.regex.now.choice.nfa.groups) c.args.left hits c.in_ok-caught.caught.items
    c.len.result count
    (c.in_ok-caught.ensures.meant pattern re hits of all)
