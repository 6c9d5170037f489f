-- The law, of this answer.
use Rattle.std.proofs.Common.{refl, None, Some}
use Rattle.nfa_engines.specs.Found.{found_of}
use Rattle.nfa_engines.specs.Search.{search_of}
use Rattle.nfa_engines.specs.Paths.{IsFindAnswer}
use Rattle.callers.proofs.KindLemmas.{as_leftmost}
use Rattle.callers.proofs.paths.leftmost.Goals as goal

pub returns-in-Some-clause-start : goal.returns-in-Some-clause-start
returns-in-Some-clause-start c =
    let nfa = c.args.vm.now.nfa in
    let x = search_of c.args.input in
    let found = Some (found_of c.in-Some.found) in
    c.no_gap.ensures.start nfa x found (rw (← c.get_nfa.ensures) c.pattern_len.ensures.valid) c.requires.anywhere
    c.requires.writes
    (as_leftmost (λ k b t. IsFindAnswer nfa k b t found) {x = x} refl c.requires.kind c.requires.off
    c.in-Some.ensures.answer)

pub returns-in-None-clause-none : goal.returns-in-None-clause-none
returns-in-None-clause-none c = λ none.
    let nfa = c.args.vm.now.nfa in
    let x = search_of c.args.input in
    record {
      no_path = (c.no_gap.ensures.none nfa x None (rw (← c.get_nfa.ensures) c.pattern_len.ensures.valid)
          c.requires.anywhere c.requires.writes
          (as_leftmost (λ k b t. IsFindAnswer nfa k b t None) {x = x} refl c.requires.kind c.requires.off
          c.in-None.ensures.answer)).0 refl;
    }
