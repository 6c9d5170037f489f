-- A search is one scan, or scans up to one that counts.
use Rattle.nfa_paths.proofs.Common.{◌≡◌, ◌∙◌, true, false, ap, sym, option_map, IfOk-weaker, half_found_of, is_anchored, search_of, is_utf8_empty}
use Rattle.nfa_lazy_dfa.proofs.ScanHalfLemmas.{half-plain, half-restarted}
use Rattle.nfa_lazy_dfa.proofs.determinize.scan.find_half.Goals as goal

pub returns-then-not-is_utf8_empty : goal.returns-then-not-is_utf8_empty
returns-then-not-is_utf8_empty c =
    let nfa = c.args.nfa.now in
    let x = search_of c.args.input in
    let flag : is_utf8_empty nfa ≡ false = sym c.is_utf8_empty.ensures ∙ c.if-not-is_utf8_empty.true in
    IfOk-weaker c.scan_half.result _ _
    (λ half is. half-plain nfa c.args.kind x.earliest c.steps_find_the_half.ensures x (option_map half_found_of half)
    flag is) c.scan_half.ensures.steps

pub returns-then-not-is_anchored : goal.returns-then-not-is_anchored
returns-then-not-is_anchored c =
    let nfa = c.args.nfa.now in
    let x = search_of c.args.input in
    let flag : is_utf8_empty nfa ≡ true = sym c.is_utf8_empty.ensures ∙ c.if-not-is_utf8_empty.false in
    let anchored : is_anchored x.anchored ≡ false =
    ap is_anchored (sym c.get_anchored.ensures) ∙ sym c.is_anchored.ensures ∙ c.if-not-is_anchored.true in
    IfOk-weaker c.find_whole_half.result _ _
    (λ half restarted. half-restarted nfa c.args.kind x.earliest c.steps_find_the_half.ensures x
    (option_map half_found_of half) flag anchored restarted) c.find_whole_half.ensures
