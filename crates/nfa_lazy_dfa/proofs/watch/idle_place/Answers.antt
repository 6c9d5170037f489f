-- The row has only the start.
use Rattle.std.proofs.Common.{rules, ◌≡◌, ◌<◌, ◌*◌, ◌/◌, ◌∷◌, [], ap, ◌∙◌, arith, slice_get, vec_len}
use Rattle.nfa_lazy_dfa.specs.Rows.{IsRowOf, stances_of}
use Rattle.nfa_lazy_dfa.specs.Stances.{Stance, stance_of}
use Rattle.nfa_lazy_dfa.proofs.CacheLemmas.{few-rows, row-is}
use Rattle.nfa_lazy_dfa.proofs.RowLemmas.{some-same}
use Rattle.nfa_lazy_dfa.proofs.watch.idle_place.Goals as goal

pub overflow_mul-result : goal.overflow_mul-result
overflow_mul-result c =
    let less : c.args.row < vec_len c.args.cache.now.stands = search rules in
    let few : c.args.row < 0x20_0000 = few-rows c.args.cache.now c.args.dfa.now c.requires c.args.row less in
    omega arith

pub returns-then-is_idle : goal.returns-then-is_idle
returns-then-is_idle c =
    let cache = c.args.cache.now in
    let less : c.args.row < vec_len cache.stands = search rules in
    let s = c.index.result.now in
    let there : IsRowOf cache c.args.row (stance_of s) = row-is cache c.args.row s less c.index.ensures in
    let only : (stance_of s).states ≡ c.args.dfa.now.nfa.anchored ∷ [] = search rules in
    record {
      alone = λ t whole is.
          let row : c.args.row ≡ c.args.row * 256 / 256 = omega arith in
          let same : t ≡ stance_of s =
          some-same (slice_get (stances_of cache.stands.items) c.args.row) t (stance_of s)
          (ap (slice_get (stances_of cache.stands.items)) row ∙ is) there in
          ap (λ (u : Stance). u.states) same ∙ only;
    }
