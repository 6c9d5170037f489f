-- The totals of a cache rise by at most 2n + 3 scans, wherever an iteration stops.
use Rattle.nfa_paths.proofs.Common.{None}
use Rattle.nfa_engines.proofs.EngineWorkLemmas.{calls-add, back_filled, back_found, pike_filled, pike_found}
use Rattle.nfa_engines.proofs.laws.iterations_are_bounded.Goals as goal

pub returns : goal.returns
returns c = record {
  pike = λ vm x old new h. calls-add (pike_found vm) x (record { cache = old; known = None })
      (record { cache = new; known = h.known }) tt h.left;
  pike_rows = λ vm x old new h. calls-add (pike_filled vm) x old new tt h;
  backtracker = λ e x old new h. calls-add (back_found e) x (record { cache = old; known = None })
      (record { cache = new; known = h.known }) tt h.left;
  backtracker_rows = λ e x old new h. calls-add (back_filled e) x old new tt h;
}
