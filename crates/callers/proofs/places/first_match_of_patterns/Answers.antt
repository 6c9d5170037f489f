-- The law, of this match.
use Rattle.std.proofs.Common.{Some, refl}
use Rattle.nfa_engines.specs.Found.{found_of}
use Rattle.nfa_engines.specs.Search.{search_of}
use Rattle.nfa_engines.specs.Anchored.TheVariants.{Yes}
use Rattle.nfa_engines.specs.Paths.{IsFindAnswer}
use Rattle.callers.proofs.KindLemmas.{as_leftmost}
use Rattle.callers.proofs.places.first_match_of_patterns.Goals as goal

pub returns-in-Some : goal.returns-in-Some
returns-in-Some c =
    let nfa = c.args.vm.now.nfa in
    let found = found_of c.in-Some.found in
    c.first_pattern_answers.ensures.match_pattern nfa (record (search_of c.args.input) { anchored = Yes }) found
    c.requires.anywhere refl c.requires.tries
    (as_leftmost (λ k b t. IsFindAnswer nfa k b t (Some found)) c.anchored-anchored.ensures c.requires.kind
    c.requires.off c.in-Some.ensures.answer)
