-- The rows stay.
use Rattle.std.proofs.Common.{refl}
use Rattle.nfa_lazy_dfa.proofs.CacheLemmas.{IsFor-same}
use Rattle.nfa_lazy_dfa.proofs.cache.Cache.count_stop.Goals as goal

pub returns-then-stopped-clause-own : goal.returns-then-stopped-clause-own
returns-then-stopped-clause-own c = IsFor-same c.args.dfa.now c.args.self.now _ refl refl refl refl refl c.requires

pub returns-else-stopped-clause-own : goal.returns-else-stopped-clause-own
returns-else-stopped-clause-own c = IsFor-same c.args.dfa.now c.args.self.now _ refl refl refl refl refl c.requires
