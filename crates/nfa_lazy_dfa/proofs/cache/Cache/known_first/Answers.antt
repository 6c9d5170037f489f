-- A place that is not empty has the row of such a search.
use Rattle.std.proofs.Common.{◌≢◌, ℕ, ap, ◌∙◌, sym, get_or, Some, arith}
use Rattle.nfa_lazy_dfa.specs.Rows.{IsFor, stances_of}
use Rattle.nfa_lazy_dfa.specs.Stances.{first_stance}
use Rattle.nfa_lazy_dfa.proofs.FirstLemmas.{first-is}
use Rattle.nfa_lazy_dfa.proofs.cache.Cache.known_first.Goals as goal

pub returns : goal.returns
unfolding IsFor
returns c =
    let self = c.args.self.now in
    let dfa = c.args.dfa.now in
    let known : get_or self.firsts c.in_ok-place.place 0 ≢ 0xFFFF_FFFF = λ e. absurd (omega arith) in
    first-is dfa.nfa.anchored (stances_of self.stands.items) self.firsts c.requires.firsts c.args.before c.args.more
    c.in_ok-place.place c.in_ok-place.ensures.place known
    ∙ ap (λ (s : ℕ). Some (first_stance s c.args.before c.args.more)) (sym c.in_ok-place.ensures.start)
