-- The law, of this answer.
use Rattle.std.proofs.Common.{true, false}
use Rattle.nfa_engines.specs.Search.{search_of}
use Rattle.nfa_engines.specs.Engines.{kind_of}
use Rattle.callers.proofs.answers.found_under_the_flag.Goals as goal

pub returns : goal.returns
returns c = (c.earliest_flag_is_not_read.ensures.found c.args.vm.now.nfa (search_of c.args.input) true
    (kind_of c.args.vm.now) false c.is_match.result).0
    (rw c.earliest-flagged.ensures at c.is_match.ensures.answer)
