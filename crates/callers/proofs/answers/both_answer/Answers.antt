-- The law, of the two answers.
use Rattle.std.proofs.Common.{arith, false, option_map, refl}
use Rattle.nfa_engines.specs.PatternSets.{number_of}
use Rattle.nfa_engines.specs.Search.{search_of}
use Rattle.nfa_engines.specs.MatchKind.TheVariants.{LeftmostFirst}
use Rattle.nfa_engines.specs.Paths.{IsAnswer}
use Rattle.callers.proofs.KindLemmas.{as_leftmost}
use Rattle.callers.proofs.answers.both_answer.Goals as goal

pub returns : goal.returns
returns c =
    let nfa = c.args.vm.now.nfa in
    let x = search_of c.args.input.now in
    let one = option_map number_of c.search_slots-one.result in
    let slots = c.search_slots-one.new.slots in
    (c.engines_agree.ensures nfa x LeftmostFirst false one _ slots c.try_search_slots.new.slots
    (as_leftmost (λ k b t. IsAnswer nfa k b t one slots) {x = x} refl c.requires.kind c.requires.off
    c.search_slots-one.ensures.answer)
    (rw c.requires.same at c.in_ok-two.ensures.answer)
    (omega (arith, c.search_slots-one.auto.slots, c.try_search_slots.auto.slots))).0
