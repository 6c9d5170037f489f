-- The law, of this NFA.
use Rattle.nfa_engines.specs.Search.{search_of}
use Rattle.callers.proofs.sets.all_paths_count.Goals as goal

pub returns : goal.returns
returns c = λ path held. (c.room_leaves_no_path_out.ensures.first c.args.vm.now.nfa (search_of c.args.input.now)
    c.args.capacity path (rw (← c.get_nfa.ensures) c.pattern_len.ensures.valid) c.requires.room).0 held
