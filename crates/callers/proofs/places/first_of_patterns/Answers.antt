-- The law, of this answer.
use Rattle.std.proofs.Common.{Some, refl}
use Rattle.nfa_engines.specs.PatternSets.{number_of}
use Rattle.nfa_engines.specs.Search.{search_of}
use Rattle.nfa_engines.specs.Anchored.TheVariants.{Yes}
use Rattle.nfa_engines.specs.Paths.{IsAnswer}
use Rattle.callers.proofs.KindLemmas.{as_leftmost}
use Rattle.callers.proofs.places.first_of_patterns.Goals as goal

pub returns-in-Some : goal.returns-in-Some
returns-in-Some c =
    let nfa = c.args.vm.now.nfa in
    let pattern = number_of c.in-Some.pattern in
    let slots = c.search_slots.new.slots in
    c.first_pattern_answers.ensures.pattern nfa (record (search_of c.args.input) { anchored = Yes }) pattern slots
    c.requires.anywhere refl c.requires.tries
    (as_leftmost (λ k b t. IsAnswer nfa k b t (Some pattern) slots) c.anchored-anchored.ensures c.requires.kind
    c.requires.off c.in-Some.ensures.answer)
