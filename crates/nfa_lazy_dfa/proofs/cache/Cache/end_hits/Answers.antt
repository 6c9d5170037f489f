-- Without a match there is no pattern; else they are looked up.
use Rattle.nfa_paths.proofs.Common.{rules, ◌≡◌, ◌<◌, List, length, map, ap, sym, ◌∙◌, arith, None, option_map, slice_get, vec_len, number_of}
use Rattle.nfa_lazy_dfa.proofs.StepLemmas.{number-none}
use Rattle.nfa_lazy_dfa.specs.Rows.{stances_of}
use Rattle.nfa_lazy_dfa.specs.Stances.{Stance, here, hits_here, stance_of}
use Rattle.nfa_lazy_dfa.proofs.CacheLemmas.{below-at, row-is}
use Rattle.nfa_lazy_dfa.proofs.ReachLemmas.{hits-none}
use Rattle.nfa_lazy_dfa.proofs.RowLemmas.{some-same}
use Rattle.nfa_lazy_dfa.specs.declared.follow.Stand.{Stand}
use Rattle.nfa_lazy_dfa.proofs.cache.Cache.end_hits.Goals as goal

pub returns-then-is_none-clause-hits : goal.returns-then-is_none-clause-hits
returns-then-is_none-clause-hits c = λ s is.
    let dfa = c.args.dfa.now in
    let hit = c.in_ok-hit.hit in
    let none : option_map number_of hit ≡ None = search (rules, number-none) in
    ap (map number_of) c.new.ensures.items
    ∙ sym (hits-none dfa.nfa dfa.kind (here dfa.nfa s None) (sym (c.in_ok-hit.ensures.hit s is) ∙ none))

pub index-requires : goal.index-requires
index-requires c =
    let old = c.args.self.now in
    let new = c.end.new.self in
    let same : length new.stands.items ≡ length old.stands.items =
    ap (λ (s : List Stand). length s) c.in_ok-hit.ensures.same in
    omega (arith, old.stands.ok.0, new.stands.ok.0, c.requires.row)

pub last_hits-requires : goal.last_hits-requires
last_hits-requires c =
    let old = c.args.self.now in
    let new = c.end.new.self in
    let same : length new.stands.items ≡ length old.stands.items =
    ap (λ (s : List Stand). length s) c.in_ok-hit.ensures.same in
    let row : c.args.row < vec_len new.stands =
    omega (arith, old.stands.ok.0, new.stands.ok.0, c.requires.row) in
    below-at new c.args.dfa.now c.in_ok-hit.ensures.own c.args.row c.index.result.now row c.index.ensures

pub returns-clause-hits : goal.returns-clause-hits
returns-clause-hits c = λ s is.
    let old = c.args.self.now in
    let new = c.end.new.self in
    let dfa = c.args.dfa.now in
    let same : length new.stands.items ≡ length old.stands.items =
    ap (λ (s : List Stand). length s) c.in_ok-hit.ensures.same in
    let row : c.args.row < vec_len new.stands =
    omega (arith, old.stands.ok.0, new.stands.ok.0, c.requires.row) in
    let t = stance_of c.index.result.now in
    let at = row-is new c.args.row c.index.result.now row c.index.ensures in
    let one : t ≡ s =
    some-same (slice_get (stances_of new.stands.items) c.args.row) t s at
    (ap (λ (stands : List Stand). slice_get (stances_of stands) c.args.row) c.in_ok-hit.ensures.same ∙ is) in
    c.in_ok-hits.ensures ∙ ap (λ (u : Stance). hits_here dfa.nfa dfa.kind u None) one
