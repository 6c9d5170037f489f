-- A search is repeated, from one byte further on each time, until the answer counts.
use Rattle.nfa_paths.proofs.Common.{Some, Ok, ◌+◌, ◌-◌, search_of}
use Rattle.nfa_search_base.specs.Common.{IsInSpan, start_raised}
use Rattle.nfa_search_base.proofs.SkipLemmas.{HasCome}
use Rattle.nfa_search_base.proofs.empty.skip_forward.Given as goal

abbrev pub invariant-loop-input : goal.invariant-loop-input
invariant-loop-input g l =
    IsInSpan (search_of l.input) l.place
    × HasCome (record {
      finder = g.F.FnMut;
      haystack = (search_of l.fn.input).haystack;
      moved = start_raised (search_of l.fn.input);
    }) (record { answer = Ok (Some (l.fn.init, l.fn.offset)); finder = l.fn.find }) (search_of l.input)
    (record { answer = Ok (Some (l.value, l.place)); finder = l.find })

abbrev pub decreases-loop-input : goal.decreases-loop-input
decreases-loop-input g l = l.input.span.end + 1 - l.input.span.start
