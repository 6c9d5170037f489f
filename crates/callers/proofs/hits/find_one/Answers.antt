-- The law of hits, and then that of one hit.
use Rattle.std.proofs.Common.{◌∙◌, [], ◌∷◌, Option, ap, refl}
use Rattle.nfa_compiler.specs.Common.{meaning, PatternHit, found_of_hit}
use Rattle.nfa_engines.specs.Search.{search_of}
use Rattle.callers.proofs.hits.find_one.Goals as goal

pub returns : goal.returns
returns c =
    let x = search_of c.args.input in
    c.searches_find_hits.ensures.matches (meaning c.args.tree.now.hir ∷ []) c.args.engine.now.nfa _ _ x _
    c.requires.made c.requires.anywhere (record { leftmost = refl; latest = refl; whole = c.requires.whole })
    c.in_ok-found.ensures.answer
    ∙ ap (λ (h : Option PatternHit). found_of_hit h)
    (c.one_hit_is_find.ensures (meaning c.args.tree.now.hir) c.args.engine.now.nfa x
    (c.no_hit_is_lost.ensures.patterns (meaning c.args.tree.now.hir ∷ []) c.args.engine.now.nfa x.haystack
    c.requires.made c.requires.free)
    c.requires.unanchored c.requires.whole)
