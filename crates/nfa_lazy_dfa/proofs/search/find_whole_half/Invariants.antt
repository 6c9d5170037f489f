-- Each start so far finds a match that splits a codepoint.
use Rattle.nfa_paths.proofs.Common.{◌≡◌, ◌≤◌, ◌+◌, ◌-◌, option_map, half_found_of, search_of}
use Rattle.nfa_lazy_dfa.specs.Configurations.{scan_half}
use Rattle.nfa_lazy_dfa.proofs.ScanHalfLemmas.{Skipping}
use Rattle.nfa_lazy_dfa.specs.Reads.{HasRead, IsOver}
use Rattle.nfa_lazy_dfa.specs.Rows.{IsFor, Scans}
use Rattle.nfa_lazy_dfa.proofs.search.find_whole_half.Given as goal

abbrev pub invariant-loop-half : goal.invariant-loop-half
invariant-loop-half l =
    let x = search_of l.fn.input in
    let y = search_of l.input in
    record {
      skipping : Skipping l.dfa.nfa l.dfa.kind x.earliest x y;
      own : IsFor l.cache l.dfa;
      few : y.start + 1 - x.start ≤ (x.end - x.start) + 2;
      reads : HasRead (IsOver l.dfa y) l.fn.cache l.cache y.start;
      work : Scans l.fn.cache l.cache (y.start + 1 - x.start) (x.end - x.start);
      found : option_map half_found_of l.half ≡ scan_half l.dfa.nfa y l.dfa.kind x.earliest;
    }

abbrev pub decreases-loop-half : goal.decreases-loop-half
decreases-loop-half l = (search_of l.input).end + 1 - (search_of l.input).start
