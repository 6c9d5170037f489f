-- The law, of this set.
use Rattle.nfa_engines.specs.Search.{search_of}
use Rattle.nfa_compiler.specs.Compiled.{res_of}
use Rattle.callers.proofs.KindLemmas.{of_all}
use Rattle.callers.proofs.compiled.patterns_that_match.Goals as goal

pub returns : goal.returns
returns c = λ k.
    c.sets_hold_patterns_that_match.ensures (res_of c.args.trees.now) c.args.vm.now.nfa (search_of c.args.input.now)
    _ _ c.requires.made c.requires.anywhere c.requires.whole
    (of_all c.args.vm.now.nfa (search_of c.args.input.now) _ _ _ c.requires.kind c.requires.off
    c.which_overlapping_matches.ensures.result) k
