-- The law, of this answer.
use Rattle.std.proofs.Common.{◌∙◌, Some, ap}
use Rattle.nfa_engines.specs.PatternSets.{number_of}
use Rattle.nfa_engines.specs.Search.{Search, search_of}
use Rattle.nfa_engines.specs.Paths.{IsAnswer}
use Rattle.callers.proofs.KindLemmas.{as_leftmost}
use Rattle.callers.proofs.places.found_at_candidate.Goals as goal

pub returns-in-Some : goal.returns-in-Some
returns-in-Some c =
    let nfa = c.args.vm.now.nfa in
    let pattern = number_of c.in-Some.pattern in
    let slots = c.search_slots.new.slots in
    c.first_start_answers.ensures.answers nfa (search_of c.args.input) c.args.start pattern slots c.requires.unbound
    c.requires.first
    (as_leftmost (λ k b t. IsAnswer nfa k b t (Some pattern) slots)
    (c.set_start.ensures ∙ ap (λ (z : Search). record z { start = c.args.start }) c.anchored-candidate.ensures)
    c.requires.kind c.requires.off c.in-Some.ensures.answer)
