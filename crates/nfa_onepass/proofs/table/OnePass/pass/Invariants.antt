-- The walk goes on over known steps that write no slot.
use Rattle.nfa_paths.proofs.Common.{◌≤◌, ◌<◌, ◌-◌, length, search_of}
use Rattle.nfa_paths.specs.Exploring.{Slots}
use Rattle.nfa_onepass.specs.Tables.{IsWalking}
use Rattle.nfa_onepass.proofs.table.OnePass.pass.Given as goal

abbrev pub invariant-loop-at : goal.invariant-loop-at
invariant-loop-at l = record {
  low : l.from ≤ l.at;
  high : l.at ≤ (search_of l.input).end;
  inside : l.row < length l.self.rows.items;
  walking : (slots : Slots) → IsWalking l.nfa (search_of l.input) l.self l.first l.from slots
      → IsWalking l.nfa (search_of l.input) l.self l.row l.at slots;
}

abbrev pub decreases-loop-at : goal.decreases-loop-at
decreases-loop-at l = (search_of l.input).end - l.at
