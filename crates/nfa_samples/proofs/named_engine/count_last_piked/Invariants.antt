-- The cache fits the engine before each round, and the count is that of the last one.
use Rattle.nfa_engines.specs.Engines.{Fits}
use Rattle.nfa_samples.specs.Counts.{IsLastCount}
use Rattle.nfa_samples.proofs.named_engine.count_last_piked.Given as goal

abbrev pub invariant-loop : goal.invariant-loop
invariant-loop l = record {
  fits : Fits l.cache l.engine.nfa;
  count : IsLastCount l.engine.nfa l.haystack l.counter l.count;
}
