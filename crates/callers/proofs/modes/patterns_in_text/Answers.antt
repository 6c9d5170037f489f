-- The laws, of this set.
use Rattle.nfa_engines.specs.Search.{search_of}
use Rattle.nfa_compiler.specs.Compiled.{res_of}
use Rattle.callers.proofs.KindLemmas.{of_all}
use Rattle.callers.proofs.modes.patterns_in_text.Goals as goal

pub returns-clause-only : goal.returns-clause-only
returns-clause-only c = λ k.
    c.searches_find_only_matches.ensures.sets (res_of c.args.trees.now) c.args.vm.now.nfa (search_of c.args.input.now)
    _ _ _ _ c.requires.made c.requires.whole c.which_overlapping_matches.ensures.result k

pub returns-clause-each : goal.returns-clause-each
returns-clause-each c = λ text k below characters m on.
    c.searches_find_only_matches.ensures.strs (res_of c.args.trees.now) c.args.vm.now.nfa (search_of c.args.input.now)
    _ _ c.requires.made c.requires.whole text
    (of_all c.args.vm.now.nfa (search_of c.args.input.now) _ _ _ c.requires.kind c.requires.off
    c.which_overlapping_matches.ensures.result) k below characters m on

pub returns-clause-ascii : goal.returns-clause-ascii
returns-clause-ascii c = λ ascii k.
    c.ascii_searches_find_if_patterns_match.ensures.sets (res_of c.args.trees.now) c.args.vm.now.nfa
    (search_of c.args.input.now) _ _ c.requires.made c.requires.whole ascii
    (of_all c.args.vm.now.nfa (search_of c.args.input.now) _ _ _ c.requires.kind c.requires.off
    c.which_overlapping_matches.ensures.result) k
