-- A row that is the idle one is idle.
use Rattle.nfa_paths.proofs.Common.{◌≡◌, ◌+◌, ◌/◌, ◌%◌, ℕ, ap, sym, ◌∙◌, subst, search_of}
use Rattle.nfa_lazy_dfa.specs.Rows.{IsRowOf}
use Rattle.nfa_lazy_dfa.proofs.WatchLemmas.{idle-begun}
use Rattle.nfa_lazy_dfa.proofs.watch.moved.Goals as goal

pub returns-then-first-from-clause-watching : goal.returns-then-first-from-clause-watching
returns-then-first-from-clause-watching c =
    let dfa = c.args.dfa.now in
    let cache = c.args.cache.now in
    let x = search_of c.args.input.now in
    let at : ℕ = c.args.from.at + 1 in
    let same : c.args.first ≡ c.args.from.idle = c.if-first-from.true in
    let whole : c.args.from.idle % 256 ≡ 0 = ap (λ (n : ℕ). n % 256) (sym same) ∙ c.requires.whole in
    record {
      whole = c.requires.whole;
      at = c.requires.at;
      idle = c.requires.watching.idle;
      begun = idle-begun dfa cache x at (c.args.first / 256) c.requires.at.at (dfa.apart_is c.requires.apart)
          (λ s is. c.requires.watching.idle.alone s whole
          (subst (λ (n : ℕ). IsRowOf cache (n / 256) s) same is)) c.requires.at.found;
    }
