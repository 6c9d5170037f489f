-- The match is that of the answer, and the cache keeps its numbers.
use Rattle.nfa_paths.proofs.Common.{search_of}
use Rattle.nfa_pikevm.specs.Engines.{kind_of}
use Rattle.nfa_search_base.proofs.AskingLemmas.{inside-of}
use Rattle.nfa_pikevm.proofs.engine.PikeVM.find.Goals as goal

pub returns-clause-inside : goal.returns-clause-inside
returns-clause-inside c = inside-of c.args.self.now.nfa (kind_of c.args.self.now) _ (search_of c.args.input)
    c.find_with_start.result c.find_with_start.ensures.answer
