-- The law, of this match.
use Rattle.std.proofs.Common.{refl}
use Rattle.nfa_engines.specs.Search.{search_of}
use Rattle.callers.proofs.hits.find_hit_in_str.Goals as goal

pub returns : goal.returns
returns c = λ res meant.
    c.searches_of_strs_find_texts.ensures.matches _ _ res c.args.engine.now.nfa _ _ (search_of c.args.input) _
    c.requires.compiled meant c.requires.utf8 (record { leftmost = refl; latest = refl; whole = c.requires.whole })
    c.requires.text c.requires.start c.in_ok-found.ensures.answer
