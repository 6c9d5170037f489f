-- There is a match exactly if a search with no slots finds a pattern.
use Rattle.nfa_paths.proofs.Common.{◌≡◌, ap, refl, Option, None, Some, false, not, is_some, option_map, search_of, number_of, PatternID, is_utf8_empty, arith}
use Rattle.nfa_search_base.proofs.GreedyLemmas.{found-finds}
use Rattle.nfa_pikevm.specs.Engines.{kind_of}
use Rattle.nfa_pikevm.proofs.EngineLemmas.{found-free, work-free}
use Rattle.nfa_pikevm.proofs.engine.PikeVM.is_match.Goals as goal

-- there is a number exactly if there is a value
is_some-map : (o : Option PatternID) → is_some (option_map number_of o) ≡ is_some o
is_some-map None = refl
is_some-map (Some x) = refl

pub returns-clause-answer : goal.returns-clause-answer
returns-clause-answer c =
    let mode : c.is_utf8_empty-earliest.result ≡ is_utf8_empty c.args.self.now.nfa =
    rw (← c.self.view_is) c.is_utf8_empty-earliest.ensures in
    rw (c.is_some.ensures, ← is_some-map c.search_slots.result)
    (found-free (ap not mode) c.earliest-input.ensures c.search_slots.ensures.answer)

pub returns-clause-work : goal.returns-clause-work
returns-clause-work c = grind (arith, work-free)

pub returns-clause-finds : goal.returns-clause-finds
returns-clause-finds c =
    found-finds c.args.self.now.nfa (kind_of c.args.self.now) false (search_of c.args.input) _ (returns-clause-answer c)
