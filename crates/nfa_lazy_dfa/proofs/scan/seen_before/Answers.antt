-- Without an assertion nothing reads the byte; with one, a byte like it is read alike.
use Rattle.std.proofs.Common.{rules}
use Rattle.nfa_lazy_dfa.proofs.scan.seen_before.Goals as goal

pub returns-in_err-byte-clause-full : goal.returns-in_err-byte-clause-full
returns-in_err-byte-clause-full c = λ cache. let full = c.in_err-byte.ensures.full cache in search rules
