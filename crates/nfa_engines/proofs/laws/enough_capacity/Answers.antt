-- If the capacity is large enough for the span, no search is refused for its length.
use Rattle.nfa_paths.proofs.Common.{arith, length, unwrap_or, ◌*◌, ◌+◌, span_len}
use Rattle.nfa_backtrack.specs.Backtrack.{capacity_of, default_capacity}
use Rattle.nfa_engines.proofs.IterationLemmas.{bits-reach, longest-fits, longer-exceeds}
use Rattle.nfa_engines.proofs.laws.enough_capacity.Goals as goal

pub returns : goal.returns
returns c = record {
  least = λ e x fits enough long.
      let pairs = length e.nfa.states * (span_len x + 1) in
      let all = bits-reach pairs (unwrap_or e.visited_capacity default_capacity) fits (omega arith) in
      omega (arith, long);
  longest = λ e x room short long.
      let all = longest-fits (capacity_of e) (length e.nfa.states) (span_len x) room (omega arith) in
      omega (arith, long);
  longer = λ e x some long. longer-exceeds (capacity_of e) (length e.nfa.states) (span_len x) some long;
}
