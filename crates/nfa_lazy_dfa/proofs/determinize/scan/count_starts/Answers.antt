-- One start for each position up to the limit.
use Rattle.nfa_paths.proofs.Common.{◌≡◌, ◌+◌, arith, sym, ap, ◌∙◌, is_some, not, true, search_of, start_count, start_state}
use Rattle.nfa_lazy_dfa.proofs.ScanHalfLemmas.{length-starts}
use Rattle.nfa_lazy_dfa.proofs.determinize.scan.count_starts.Goals as goal

pub returns : goal.returns
returns c =
    let x = search_of c.args.input.now in
    let some : is_some (start_state c.args.nfa.now x.anchored) ≡ true =
    ap is_some (sym c.start_state.ensures.value) ∙ c.is_none.ensures ∙ ap not c.if-is_none.false in
    let all = length-starts c.args.nfa.now x some in
    let count : c.start_limit.result ≡ x.start + start_count c.args.nfa.now x = c.start_limit.ensures.count in
    let start : c.start.result ≡ x.start = c.start.ensures in
    omega arith
