-- The pattern that was looked up before.
use Rattle.nfa_paths.proofs.Common.{◌≡◌, ap, ◌∙◌, Some, slice_get, slice_get_read}
use Rattle.nfa_lazy_dfa.specs.Rows.{IsFor}
use Rattle.nfa_lazy_dfa.proofs.CacheLemmas.{ends-within}
use Rattle.nfa_lazy_dfa.proofs.ends.known_end.Goals as goal

pub index-requires : goal.index-requires
index-requires c = ends-within c.args.cache.now c.args.dfa.now c.requires.own c.args.row c.requires.row

pub returns-in-Some : goal.returns-in-Some
unfolding IsFor
returns-in-Some c = λ s is.
    let cache = c.args.cache.now in
    let within = ends-within cache c.args.dfa.now c.requires.own c.args.row c.requires.row in
    let at : slice_get cache.ends.items c.args.row ≡ Some c.index.result.now =
    slice_get_read cache.ends.items cache.ends.len c.args.row c.index.result.now cache.ends.ok.0 within c.index.ensures
    in
    c.requires.own.rows.ends_are c.args.row s c.in-Some.hit is (at ∙ ap Some c.in-Some.is)
