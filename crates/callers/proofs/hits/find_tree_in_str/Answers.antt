-- The law of hits that end on a boundary, and then that of hits in a `str`.
use Rattle.std.proofs.Common.{◌∙◌, ℕ, ◌<◌, zero, suc, [], ◌∷◌, Option, ap, arith, refl, slice_index_or}
use Rattle.nfa_compiler.specs.Common.{meaning, Re, PatternHit, found_of_hit, MatchesCharacters}
use Rattle.nfa_engines.specs.Search.{search_of}
use Rattle.callers.proofs.hits.find_tree_in_str.Goals as goal

-- the one pattern of a list
one-of : (re : Re) → MatchesCharacters re → (k : ℕ) (d : Re) → k < 1
    → MatchesCharacters (slice_index_or (re ∷ []) k d)
one-of re matches zero d less = matches
one-of re matches (suc k) d less = absurd (omega (arith, less))

pub returns : goal.returns
returns c =
    let x = search_of c.args.input in
    let re = meaning c.args.tree.now.hir in
    c.searches_find_boundary_hits.ensures.matches (re ∷ []) c.args.engine.now.nfa _ _ x _
    c.requires.made c.requires.empty (record { leftmost = refl; latest = refl; whole = c.requires.whole })
    c.in_ok-found.ensures.answer
    ∙ ap (λ (h : Option PatternHit). found_of_hit h)
    (c.boundary_hits_are_str_hits.ensures (re ∷ []) c.args.engine.now.nfa x
    (one-of re (c.trees_match_characters.ensures c.args.tree.now c.requires.formed)) c.requires.text c.requires.start)
