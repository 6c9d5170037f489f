-- The walk is on the way.
use Rattle.nfa_paths.proofs.Common.{◌≡◌, ◌≤◌, ◌-◌, search_of}
use Rattle.nfa_onepass.specs.Tables.{IsFor, IsWalking}
use Rattle.nfa_onepass.proofs.table.OnePass.walk.Given as goal

abbrev pub invariant-loop-place : goal.invariant-loop-place
invariant-loop-place l = record {
  own : IsFor l.nfa l.self;
  setup : l.self.setup ≡ l.fn.self.setup;
  high : l.place.at ≤ (search_of l.input).end;
  walking : IsWalking l.nfa (search_of l.input) l.self l.place.row l.place.at l.slots;
}

abbrev pub decreases-loop-place : goal.decreases-loop-place
decreases-loop-place l = (search_of l.input).end - l.place.at
