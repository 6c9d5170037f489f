-- The second cell leads to the row with a match.
use Rattle.nfa_paths.proofs.Common.{rules, ◌≡◌, ◌+◌, ◌%◌, ◌/◌, ◌<◌, ℕ, subst, arith, search_of}
use Rattle.nfa_lazy_dfa.specs.Places.{IsMatchedAt}
use Rattle.nfa_lazy_dfa.proofs.CacheLemmas.{few-rows, row-inside}
use Rattle.nfa_lazy_dfa.proofs.RunLemmas.{over-match}
use Rattle.nfa_lazy_dfa.proofs.known.stays_by_two.Goals as goal

pub overflow_add-result : goal.overflow_add-result
overflow_add-result c =
    let here = c.requires.at.at in
    let few = few-rows c.args.cache.now c.args.dfa.now c.requires.own (c.args.first / 256)
    (row-inside c.args.cache.now (c.args.first / 256) here.stance here.is) in
    omega arith

pub returns : goal.returns
returns c = λ yes.
    let x = search_of c.args.input.now in
    let was = c.requires.at.at in
    let here = c.in-Some.ensures.at in
    let first = c.args.first in
    let cell = c.read_cell.result in
    let few : first / 256 < 0x20_0000 = few-rows c.args.cache.now c.args.dfa.now c.requires.own (first / 256)
    (row-inside c.args.cache.now (first / 256) was.stance was.is) in
    let same : cell ≡ first + 0x4000_0000 = search rules in
    let back : cell % 0x2000_0000 ≡ first = omega arith in
    let two : c.args.at + 1 + 1 ≡ c.args.at + 2 = omega arith in
    subst (λ (to : ℕ). IsMatchedAt c.args.dfa.now c.args.cache.now x to first) two
    (subst (IsMatchedAt c.args.dfa.now c.args.cache.now x (c.args.at + 1 + 1)) back
    (over-match c.args.dfa.now x c.args.cache.now (c.args.at + 1) c.in-Some.between cell here
    (c.read_cell.ensures (omega arith) here.stance here.is) c.requires.inside c.args.input.now.within (omega arith)
    (omega arith) c.requires.late))
