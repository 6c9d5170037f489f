-- The law, of these captures.
use Rattle.std.proofs.Common.{refl}
use Rattle.nfa_engines.specs.Search.{search_of}
use Rattle.callers.proofs.hits.capture_hits_in_str.Goals as goal

pub returns : goal.returns
returns c = λ res meant.
    c.iterations_of_strs_find_texts.ensures.captures _ _ res c.args.engine.now.nfa _ _ (search_of c.args.input) _
    c.requires.compiled meant c.requires.utf8 c.requires.free
    (record { leftmost = refl; latest = refl; whole = c.requires.whole }) c.requires.text
    c.in_ok-rows.ensures.rows
