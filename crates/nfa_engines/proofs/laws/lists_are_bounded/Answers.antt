-- The totals of a cache rise by at most the scans and turns of a whole list.
use Rattle.nfa_paths.proofs.Common.{None}
use Rattle.nfa_engines.proofs.EngineWorkLemmas.{list-adds, back_filled, back_found, pike_filled, pike_found}
use Rattle.nfa_engines.proofs.laws.lists_are_bounded.Goals as goal

pub returns : goal.returns
returns c = record {
  pike = λ vm x ms old new h. list-adds (pike_found vm) x ms (record { cache = old; known = None })
      (record { cache = new; known = h.known }) tt h.left;
  pike_rows = λ vm x rows old new h. list-adds (pike_filled vm) x rows old new tt h;
  backtracker = λ e x ms old new h. list-adds (back_found e) x ms (record { cache = old; known = None })
      (record { cache = new; known = h.known }) tt h.left;
  backtracker_rows = λ e x rows old new h. list-adds (back_filled e) x rows old new tt h;
}
