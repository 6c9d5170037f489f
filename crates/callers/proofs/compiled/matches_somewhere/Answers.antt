-- The law, of this answer.
use Rattle.nfa_engines.specs.Search.{search_of}
use Rattle.nfa_compiler.specs.Compiled.{res_of}
use Rattle.callers.proofs.compiled.matches_somewhere.Goals as goal

pub returns : goal.returns
returns c =
    c.searches_find_if_patterns_match.ensures.found (res_of c.args.trees.now) c.args.vm.now.nfa _ _
    (search_of c.args.input) _ c.requires.made c.requires.anywhere c.requires.whole c.is_match.ensures.answer
