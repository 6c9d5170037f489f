-- The match of a search, its pattern, and its span.
use Rattle.nfa_paths.proofs.Common.{false, ◌≡◌, ◌∙◌, ◌*◌, ap, arith, length, length-take, search_of, IsAutomaton, LeftmostFirst}
use Rattle.nfa_paths.proofs.RestartLemmas.{match-some}
use Rattle.nfa_search_base.proofs.AskingLemmas.{inside-of, pattern-of}
use Rattle.nfa_backtrack.specs.Backtrack.{Backtracker}
use Rattle.nfa_backtrack.proofs.engine.BoundedBacktracker.find_with.Goals as goal

pub returns-clause-answer : goal.returns-clause-answer
returns-clause-answer c =
    let same = ap (λ (e : Backtracker). e.nfa) c.self.view_is in
    let valid : IsAutomaton c.args.self.now.nfa = rw (← same) c.group_info.ensures.valid in
    let size : length c.search.new.slots ≡ 2 * length c.args.self.now.nfa.groups =
    rw (← same)
    (c.search.auto.slots
    ∙ omega (
      arith,
      length-take c.implicit_slot_len-slot_len.result c.as_mut_slice.result.now,
      c.as_mut_slice.ensures.len,
      c.in_ok-grow.ensures,
      c.implicit_slot_len-slot_len.ensures,
      ap length c.group_info.ensures.value,
    )) in
    match-some valid c.pattern.ensures size (rw c.in-Some.is at c.in_ok-half.ensures.answer) c.from_slots.ensures

pub returns-clause-inside : goal.returns-clause-inside
returns-clause-inside c = inside-of c.args.self.now.nfa LeftmostFirst false (search_of c.args.input.now)
    c.from_slots.result (returns-clause-answer c)

pub returns-clause-pattern : goal.returns-clause-pattern
returns-clause-pattern c = grind (arith, pattern-of, returns-clause-answer)
