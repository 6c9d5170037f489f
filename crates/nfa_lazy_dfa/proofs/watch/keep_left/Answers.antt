-- The rows stay.
use Rattle.std.proofs.Common.{refl}
use Rattle.nfa_lazy_dfa.proofs.CacheLemmas.{IsFor-same}
use Rattle.nfa_lazy_dfa.proofs.watch.keep_left.Goals as goal

pub returns-then-from-newer-clause-own : goal.returns-then-from-newer-clause-own
returns-then-from-newer-clause-own c = IsFor-same c.args.dfa.now c.args.cache.now _ refl refl refl refl refl c.requires
