-- The law, of these matches.
use Rattle.std.proofs.Common.{refl}
use Rattle.nfa_compiler.specs.Compiled.{res_of}
use Rattle.nfa_engines.specs.Search.{search_of}
use Rattle.callers.proofs.hits.find_all_boundary_hits.Goals as goal

pub returns : goal.returns
returns c =
    c.iterations_find_boundary_hits.ensures.matches (res_of c.args.trees.now) c.args.engine.now.nfa _ _
    (search_of c.args.input) _ c.requires.made c.requires.empty
    (record { leftmost = refl; latest = refl; whole = c.requires.whole }) c.in_ok-found.ensures.all
