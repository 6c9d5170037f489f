-- The law, of this NFA.
use Rattle.nfa_engines.specs.Search.{search_of}
use Rattle.nfa_engines.specs.Anchored.TheVariants.{Yes}
use Rattle.callers.proofs.order.texts_are_tried_in_order.Goals as goal

pub returns : goal.returns
returns c =
    c.compiled_nfas_try_patterns_in_order.ensures.texts _ _ c.args.vm.now.nfa
    (record (search_of c.args.input.now) { anchored = Yes }) c.requires
