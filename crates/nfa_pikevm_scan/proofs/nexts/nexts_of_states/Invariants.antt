-- The states of a position are followed in order, up to the match that ends it.
use Rattle.nfa_pikevm_scan.proofs.Common.{ClosuresLeadTo, KeepsRoom, [], between, drop, false, items_of, moment_of, search_of, ◌*◌, ◌≡◌, ◌≤◌}
use Rattle.nfa_pikevm_scan.proofs.nexts.nexts_of_states.Given as goal

abbrev pub invariant-loop-sid : goal.invariant-loop-sid
invariant-loop-sid g l = record {
  start : l.start ≡ l.sid-index * l.width;
  keeps : KeepsRoom l.fn.reached l.reached;
  grows : l.fn.reached.seen.turns ≤ l.reached.seen.turns;
  behind : drop (l.sid-index * l.width) l.rows ≡ drop (l.sid-index * l.width) l.fn.rows;
  width : g.T.MatchSink.row_width l.sink ≡ g.T.MatchSink.row_width l.fn.sink;
  same_reference : g.T.MatchSink.reference l.sink ≡ g.T.MatchSink.reference l.fn.sink;
  crosses : ClosuresLeadTo l.here.nfa.now (search_of l.here.input.now) g.T.MatchSink.takes l.here.at
      (between l.fn.reached.seen (items_of l.width l.kept l.fn.rows) []) l.fn.sink false
      (drop l.sid-index (items_of l.width l.kept l.fn.rows)) (moment_of l.reached [] []) l.sink;
}
