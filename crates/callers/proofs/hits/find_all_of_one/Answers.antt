-- The law of all hits, and then that of one pattern.
use Rattle.std.proofs.Common.{◌∙◌, [], ◌∷◌, List, ap, map, refl}
use Rattle.nfa_compiler.specs.Common.{meaning, PatternHit, found_at}
use Rattle.nfa_engines.specs.Search.{search_of}
use Rattle.callers.proofs.hits.find_all_of_one.Goals as goal

pub returns : goal.returns
returns c =
    let x = search_of c.args.input in
    c.iterations_find_all_hits.ensures.matches (meaning c.args.tree.now.hir ∷ []) c.args.engine.now.nfa _ _ x _
    c.requires.made c.requires.anywhere (record { leftmost = refl; latest = refl; whole = c.requires.whole })
    c.in_ok-found.ensures.all
    ∙ ap (λ (hits : List PatternHit). map found_at hits)
    (c.all_hits_are_find_all.ensures (meaning c.args.tree.now.hir) c.args.engine.now.nfa x
    (c.no_hit_is_lost.ensures.patterns (meaning c.args.tree.now.hir ∷ []) c.args.engine.now.nfa x.haystack
    c.requires.made c.requires.free)
    c.requires.unanchored c.requires.start c.requires.whole)
