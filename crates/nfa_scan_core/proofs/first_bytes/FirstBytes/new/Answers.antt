-- If not all states were followed, every byte is admitted.
use Rattle.std.proofs.Common.{refl}
use Rattle.nfa_scan_core.proofs.FirstLemmas.{IsFirstBytes-all}
use Rattle.nfa_scan_core.proofs.first_bytes.FirstBytes.new.Goals as goal

pub returns-in-None : goal.returns-in-None
returns-in-None c = IsFirstBytes-all c.args.nfa.now _ 256 refl c.in-None.ensures.none
