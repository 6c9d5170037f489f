-- The iterator gives the captures of its input.
use Rattle.nfa_paths.proofs.Common.{refl, search_of}
use Rattle.nfa_backtrack.proofs.CapturesLemmas.{captures-are-given, captures-refused, captures-by-searches}
use Rattle.nfa_backtrack.proofs.engine.BoundedBacktracker.try_captures_iter_with.Goals as goal

pub returns-clause-given : goal.returns-clause-given
returns-clause-given c = captures-are-given c.args.self.now (search_of c.args.input) _ refl c.new.ensures refl

pub returns-clause-inside : goal.returns-clause-inside
returns-clause-inside c = (captures-are-given c.args.self.now (search_of c.args.input) _ refl c.new.ensures refl).inside

pub returns-clause-refused : goal.returns-clause-refused
returns-clause-refused c = captures-refused c.args.self.now (search_of c.args.input) _ refl c.new.ensures refl

pub returns-clause-searches : goal.returns-clause-searches
returns-clause-searches c = captures-by-searches c.args.self.now (search_of c.args.input) _ refl c.new.ensures refl
