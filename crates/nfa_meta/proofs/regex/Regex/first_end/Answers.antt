-- A scan to the first end finds none exactly if nothing matches.
use Rattle.nfa_paths.proofs.Common.{rules, arith, None, common_steps, search_of, IsHalfAnswer}
use Rattle.nfa_choice.specs.ChoiceState.{kind_in}
use Rattle.nfa_lazy_dfa.specs.Windows.{IsWindow}
use Rattle.nfa_meta.proofs.FirstEndLemmas.{end-first, end-nothing}
use Rattle.nfa_meta.proofs.regex.Regex.first_end.Goals as goal
use Rattle.nfa_meta.proofs.regex.Regex.first_end.Goals.{in-Ok-None, in-Ok-Some, in-Err}

pub returns-clause-nothing : goal.returns-clause-nothing
returns-clause-nothing c =
    let r = c.args.self.now.choice in
    let x = search_of c.args.input in
    let y = search_of c.earliest.result in
    elim c.match-try_find_window.branch [
      | in-Ok-None w ↦
          let half : IsHalfAnswer r.nfa (kind_in r) y.earliest y None =
          first_of (search rules, grind (arith, common_steps)) in
          let laws = c.nothing_has_no_answer.ensures in
          rw w.result-is (end-nothing r.nfa (kind_in r) x y c.requires.windowed c.earliest.ensures
          c.found_is_an_accepting_path.ensures.nothing laws.answer laws.match_of half)
      | in-Ok-Some w ↦ rw w.result-is tt
      | in-Err w ↦ rw w.result-is tt
    ]

pub returns-clause-first : goal.returns-clause-first
returns-clause-first c =
    let r = c.args.self.now.choice in
    let x = search_of c.args.input in
    let y = search_of c.earliest.result in
    elim c.match-try_find_window.branch [
      | in-Ok-None w ↦ rw w.result-is tt
      | in-Ok-Some w ↦
          let v = w.in-Ok-Some.window in
          let window : IsWindow r.nfa y v = first_of (search rules, grind (arith, common_steps)) in
          let start = end-first r.nfa (kind_in r) x y c.requires.windowed c.earliest.ensures
          c.windows_are_first_starts.ensures v window in
          first_of (search rules, grind (arith, common_steps))
      | in-Err w ↦ rw w.result-is tt
    ]
