-- The rows so far are sound, and the next one leads to the state of this number.
use Rattle.std.proofs.Common.{◌≡◌, ◌+◌, true, length}
use Rattle.std.specs.List.{list_all}
use Rattle.nfa_samples.specs.StateTables.{is_row}
use Rattle.nfa_samples.proofs.tables.alnum100_rows.Given as goal

abbrev pub invariant-loop-next : goal.invariant-loop-next
invariant-loop-next l = record {
  count : length l.rows.items + 1 ≡ l.next;
  sound : list_all (is_row 105 2 1) l.rows.items ≡ true;
}
