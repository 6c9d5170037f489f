-- The configuration of the positions so far.
use Rattle.nfa_paths.proofs.Common.{◌≡◌, ◌<◌, ◌-◌, All, length, option_map, half_found_of, search_of}
use Rattle.nfa_lazy_dfa.specs.Configurations.{Configuration, scanned}
use Rattle.nfa_lazy_dfa.proofs.determinize.scan.scan_half.Given as goal

abbrev pub invariant-loop-at : goal.invariant-loop-at
invariant-loop-at l =
    let x = search_of l.input in
    let c : Configuration = record {
      states = l.states.items;
      starts = l.starts;
      found = option_map half_found_of l.found;
    } in
    record {
      is : c ≡ scanned l.nfa x l.kind x.earliest (l.at - x.start);
      below : All (λ s. s < length l.nfa.states) l.states.items;
    }
