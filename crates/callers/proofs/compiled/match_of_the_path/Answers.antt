-- The law, of this match.
use Rattle.nfa_engines.specs.Search.{search_of}
use Rattle.callers.proofs.compiled.match_of_the_path.Goals as goal

pub returns : goal.returns
returns c = λ restarts path answers.
    c.matches_are_of_paths.ensures c.args.vm.now.nfa _ _ (search_of c.args.input) restarts path _
    c.pikevm_nfa_is_valid.ensures
    (c.compiled_nfas_record_bounds.ensures.texts _ _ c.args.vm.now.nfa c.requires.compiled) answers
    c.find.ensures.answer
