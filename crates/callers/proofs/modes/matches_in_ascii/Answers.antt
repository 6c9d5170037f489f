-- The law, of this answer.
use Rattle.nfa_engines.specs.Search.{search_of}
use Rattle.nfa_compiler.specs.Compiled.{res_of}
use Rattle.callers.proofs.modes.matches_in_ascii.Goals as goal

pub returns : goal.returns
returns c =
    c.ascii_searches_find_if_patterns_match.ensures.found (res_of c.args.trees.now) c.args.vm.now.nfa _ _
    (search_of c.args.input) _ c.requires.made c.requires.whole c.requires.ascii c.is_match.ensures.answer
