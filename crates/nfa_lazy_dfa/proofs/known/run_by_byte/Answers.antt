-- A cell leads to what the byte leads to; one with a match is followed only if later matches count.
use Rattle.nfa_paths.proofs.Common.{◌≡◌, ◌+◌, ◌/◌, ◌∙◌, false, sym, arith, search_of}
use Rattle.nfa_lazy_dfa.specs.Rows.{IsRowOf}
use Rattle.nfa_lazy_dfa.specs.Stances.{stance_of}
use Rattle.nfa_lazy_dfa.proofs.CacheLemmas.{row-inside, row-is}
use Rattle.nfa_lazy_dfa.proofs.RunLemmas.{few-at, found-matched, place-first}
use Rattle.nfa_lazy_dfa.proofs.known.run_by_byte.Goals as goal

pub loop-at-init : goal.loop-at-init
loop-at-init c = record {
  whole = omega arith;
  at = place-first c.args.dfa.now c.args.cache.now (search_of c.args.input.now) c.args.from c.requires.at;
  low = omega arith;
}

pub loop-at-preserved : goal.loop-at-preserved
loop-at-preserved c =
    let x = search_of c.args.input.now in
    let cache = c.args.cache.now in
    let row = c.in-Some.matched in
    let late : x.earliest ≡ false = sym c.get_earliest-is_earliest.ensures ∙ c.if-is_earliest.false in
    let here = c.in-Some.ensures.at late in
    let t = stance_of c.index.result.now in
    let known : IsRowOf cache (row / 256) t =
    row-is cache (row / 256) c.index.result.now (row-inside cache (row / 256) here.at.stance here.at.is) c.index.ensures
    in
    record {
      whole = c.in-Some.ensures.whole;
      at = found-matched c.args.dfa.now x cache (c.loop-at.at + 1) row here late t known c.half_at-found.result
          c.half_at-found.ensures;
      low = omega arith;
    }

pub index-requires : goal.index-requires
index-requires c =
    let late = sym c.get_earliest-is_earliest.ensures ∙ c.if-is_earliest.false in
    let here = (c.in-Some.ensures.at late).at in
    row-inside c.args.cache.now (c.in-Some.matched / 256) here.stance here.is

pub overflow_mul-first : goal.overflow_mul-first
overflow_mul-first c =
    let few = few-at c.args.dfa.now c.args.cache.now (search_of c.args.input.now) c.args.from c.requires.own
    c.requires.at in
    omega arith
