-- With room for each pattern all paths with a permitted end count.
use Rattle.nfa_engines.proofs.FirstSetLemmas.{earliest-room, first-room}
use Rattle.nfa_engines.proofs.laws.room_leaves_no_path_out.Goals as goal

pub returns : goal.returns
returns c = record { first = first-room; earliest = earliest-room }
