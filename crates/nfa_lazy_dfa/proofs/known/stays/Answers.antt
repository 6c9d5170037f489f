-- The cell is the one that led here.
use Rattle.nfa_paths.proofs.Common.{rules, ◌≡◌, ◌+◌, ◌%◌, ℕ, subst, arith, search_of}
use Rattle.nfa_lazy_dfa.specs.Places.{IsFoundAt}
use Rattle.nfa_lazy_dfa.specs.Runs.{place_at}
use Rattle.nfa_lazy_dfa.proofs.known.stays.Goals as goal

pub returns : goal.returns
returns c = λ yes.
    let same : c.cell_at.result ≡ c.args.cell = search rules in
    subst (λ (cell : ℕ). IsFoundAt c.args.dfa.now c.args.cache.now (search_of c.args.input.now)
    (place_at (c.args.at + 1) (cell % 0x2000_0000) c.args.found)) same (c.cell_at.ensures.unmatched (omega arith))
