-- The law, of this match.
use Rattle.std.proofs.Common.{refl}
use Rattle.nfa_compiler.specs.Compiled.{res_of}
use Rattle.nfa_engines.specs.Search.{search_of}
use Rattle.callers.proofs.hits.find_hit.Goals as goal

pub returns : goal.returns
returns c =
    c.searches_find_hits.ensures.matches (res_of c.args.trees.now) c.args.engine.now.nfa _ _ (search_of c.args.input) _
    c.requires.made c.requires.anywhere (record { leftmost = refl; latest = refl; whole = c.requires.whole })
    c.in_ok-found.ensures.answer
