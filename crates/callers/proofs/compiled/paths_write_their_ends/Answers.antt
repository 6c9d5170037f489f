-- The law, of this NFA.
use Rattle.nfa_engines.specs.Search.{search_of}
use Rattle.callers.proofs.compiled.paths_write_their_ends.Goals as goal

pub returns : goal.returns
returns c =
    c.match_spans_are_written.ensures c.args.vm.now.nfa (search_of c.args.input.now)
    (c.compiled_nfas_record_bounds.ensures.texts _ _ c.args.vm.now.nfa c.requires)
