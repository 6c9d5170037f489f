-- The match is that of the pattern and the slots of the answer.
use Rattle.nfa_paths.proofs.Common.{◌≡◌, ◌∙◌, ◌*◌, ap, arith, length, length-take, search_of, IsAutomaton}
use Rattle.nfa_paths.proofs.RestartLemmas.{match-some}
use Rattle.nfa_pikevm.specs.Engines.{kind_of}
use Rattle.nfa_search_base.proofs.AskingLemmas.{pattern-of}
use Rattle.nfa_pikevm.proofs.engine.PikeVM.find_with.Goals as goal

pub returns-clause-answer : goal.returns-clause-answer
returns-clause-answer c =
    let size : length c.search.new.slots ≡ 2 * length c.self.inside.nfa.groups =
    c.search.auto.slots
    ∙ omega (
      arith,
      length-take c.implicit_slot_len-slot_len.result c.args.found.now,
      rw (← c.self.view_is) at c.requires.row,
      c.implicit_slot_len-slot_len.ensures,
      ap length c.group_info.ensures.value,
    ) in
    rw (← c.self.view_is, ← c.get_match_kind.ensures)
    (match-some c.group_info.ensures.valid c.pattern.ensures size c.in_ok-half.ensures.answer c.match_in.ensures)

pub returns-clause-pattern : goal.returns-clause-pattern
returns-clause-pattern c =
    let valid : IsAutomaton c.args.self.now.nfa = rw (← c.self.view_is) c.group_info.ensures.valid in
    pattern-of c.args.self.now.nfa (kind_of c.args.self.now) _ (search_of c.args.input.now) valid c.match_in.result
    (returns-clause-answer c)
