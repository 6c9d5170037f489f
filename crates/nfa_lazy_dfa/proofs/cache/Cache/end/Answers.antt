-- The pattern that was looked up before, or is now.
use Rattle.nfa_paths.proofs.Common.{◌≡◌, ap, ◌∙◌, Some, None, slice_get, slice_get_read}
use Rattle.nfa_lazy_dfa.specs.Rows.{IsFor, stances_of}
use Rattle.nfa_lazy_dfa.specs.Stances.{Stance, hit_here, stance_of}
use Rattle.nfa_lazy_dfa.proofs.RowLemmas.{AreRows-end, some-same}
use Rattle.nfa_lazy_dfa.proofs.CacheLemmas.{below-at, ends-within, row-is}
use Rattle.nfa_lazy_dfa.proofs.cache.Cache.end.Goals as goal

pub index-requires : goal.index-requires
index-requires c = ends-within c.args.self.now c.args.dfa.now c.requires.own c.args.row c.requires.row

pub returns-in-Some-clause-hit : goal.returns-in-Some-clause-hit
unfolding IsFor
returns-in-Some-clause-hit c = λ s is.
    let self = c.args.self.now in
    let within = ends-within self c.args.dfa.now c.requires.own c.args.row c.requires.row in
    let at : slice_get self.ends.items c.args.row ≡ Some c.index.result.now =
    slice_get_read self.ends.items self.ends.len c.args.row c.index.result.now self.ends.ok.0 within c.index.ensures in
    c.requires.own.rows.ends_are c.args.row s c.in-Some.hit is (at ∙ ap Some c.in-Some.is)

pub last_hit-requires : goal.last_hit-requires
last_hit-requires c =
    below-at c.args.self.now c.args.dfa.now c.requires.own c.args.row c.index-2.result.now c.requires.row
    c.index-2.ensures

pub index_mut-requires : goal.index_mut-requires
index_mut-requires c = ends-within c.args.self.now c.args.dfa.now c.requires.own c.args.row c.requires.row

pub returns-clause-hit : goal.returns-clause-hit
returns-clause-hit c = λ s is.
    let self = c.args.self.now in
    let same : stance_of c.index-2.result.now ≡ s =
    some-same (slice_get (stances_of self.stands.items) c.args.row) (stance_of c.index-2.result.now) s
    (row-is self c.args.row c.index-2.result.now c.requires.row c.index-2.ensures) is in
    c.in_ok-hit.ensures ∙ ap (λ (t : Stance). hit_here c.args.dfa.now.nfa c.args.dfa.now.kind t None) same

pub returns-clause-own : goal.returns-clause-own
unfolding IsFor
returns-clause-own c =
    let self = c.args.self.now in
    let nfa = c.args.dfa.now.nfa in
    let kind = c.args.dfa.now.kind in
    record {
      rows = AreRows-end nfa kind (stances_of self.stands.items) self.cells.items self.ends.items c.requires.own.rows
          c.args.row c.in_ok-hit.hit (returns-clause-hit c);
      firsts = c.requires.own.firsts;
      taken = c.requires.own.taken;
      fits = c.requires.own.fits;
    }
