-- The rows stay.
use Rattle.std.proofs.Common.{refl}
use Rattle.nfa_lazy_dfa.proofs.CacheLemmas.{IsFor-same}
use Rattle.nfa_lazy_dfa.proofs.cache.Cache.count_scan.Goals as goal

pub returns-clause-own : goal.returns-clause-own
returns-clause-own c = IsFor-same c.args.dfa.now c.args.self.now _ refl refl refl refl refl c.requires
