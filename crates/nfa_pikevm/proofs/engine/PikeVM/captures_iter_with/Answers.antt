-- The iterator gives the captures of its input, and keeps the cache.
use Rattle.nfa_paths.proofs.Common.{refl, search_of}
use Rattle.nfa_pikevm.proofs.CapturesLemmas.{captures-keep-cache, captures-are-given, captures-take-memory, captures-by-searches}
use Rattle.nfa_pikevm.proofs.engine.PikeVM.captures_iter_with.Goals as goal

pub returns-clause-given : goal.returns-clause-given
returns-clause-given c = captures-are-given c.args.self.now (search_of c.args.input) _ refl c.new.ensures refl

pub returns-clause-inside : goal.returns-clause-inside
returns-clause-inside c = (captures-are-given c.args.self.now (search_of c.args.input) _ refl c.new.ensures refl).inside

pub returns-clause-errors : goal.returns-clause-errors
returns-clause-errors c = captures-take-memory c.args.self.now (search_of c.args.input) _ refl c.new.ensures refl

pub returns-clause-searches : goal.returns-clause-searches
returns-clause-searches c = captures-by-searches c.args.self.now (search_of c.args.input) _ refl c.new.ensures refl

pub returns-clause-keeps : goal.returns-clause-keeps
returns-clause-keeps c = captures-keep-cache _
