-- The law of hits, and then that of one hit.
use Rattle.std.proofs.Common.{◌∙◌, [], ◌∷◌, Option, ap, refl}
use Rattle.nfa_engines.specs.Search.{search_of}
use Rattle.nfa_compiler.specs.Patterns.{PatternHit, found_of_hit}
use Rattle.nfa_compiler.proofs.StrLemmas.{text-bytes}
use Rattle.callers.proofs.hits.find_one_in_str.Goals as goal

pub returns : goal.returns
returns c = λ re meant.
    let x = search_of c.args.input in
    c.searches_of_strs_find_texts.ensures.matches _ _ (re ∷ []) c.args.engine.now.nfa _ _ x _
    c.requires.compiled (meant, tt) c.requires.utf8
    (record { leftmost = refl; latest = refl; whole = c.requires.whole }) c.requires.text c.requires.start
    c.in_ok-found.ensures.answer
    ∙ ap (λ (h : Option PatternHit). found_of_hit h)
    (c.str_hits_are_find_str.ensures.first re c.args.engine.now.nfa x
    (c.no_hit_is_lost.ensures.texts _ _ (re ∷ []) c.args.engine.now.nfa x.haystack c.requires.compiled (meant, tt)
    c.requires.free (text-bytes x.haystack c.requires.text))
    c.requires.unanchored c.requires.whole)
