-- The law, of this span.
use Rattle.std.proofs.Common.{arith}
use Rattle.nfa_engines.specs.Search.{search_of}
use Rattle.callers.proofs.answers.not_too_long.Goals as goal

pub returns : goal.returns
returns c = λ err. c.enough_capacity.ensures.longest c.args.engine.now (search_of c.args.input) c.requires.states
    (omega (arith, c.requires.short)) (c.try_is_match.ensures.counts.too_long.0 err)
