-- A window has the answers of the input, and without one nothing matches.
use Rattle.nfa_paths.proofs.Common.{rules, ◌≡◌, arith, None, Some, common_steps, search_of, IsHalfAnswer, LeftmostFirst}
use Rattle.nfa_choice.specs.ChoiceState.{kind_in}
use Rattle.nfa_lazy_dfa.specs.Windows.{half_in}
use Rattle.nfa_meta.specs.Windowed.{IsWindowed}
use Rattle.nfa_meta.specs.WindowRuns.{EndsAtMatch}
use Rattle.nfa_meta.proofs.WindowLemmas.{HasWindow, none-match, window-answers}
use Rattle.nfa_meta.proofs.regex.Regex.window_in.Goals as goal
use Rattle.nfa_meta.proofs.regex.Regex.window_in.Goals.{in-Ok-None, in-Ok-Some, in-Err}

pub returns-clause-nothing : goal.returns-clause-nothing
returns-clause-nothing c =
    let x = search_of c.args.input in
    let r = c.args.self.now.choice in
    let windowed : IsWindowed r.nfa x = first_of (search rules, grind (arith, common_steps)) in
    elim c.match-try_find_window.branch [
      | in-Ok-None w ↦
          let half : IsHalfAnswer r.nfa (kind_in r) x.earliest x None =
          first_of (search rules, grind (arith, common_steps)) in
          rw w.result-is (none-match r.nfa (kind_in r) x half)
      | in-Ok-Some w ↦ rw w.result-is tt
      | in-Err w ↦ rw w.result-is tt
    ]

pub returns-clause-answers : goal.returns-clause-answers
returns-clause-answers c =
    let x = search_of c.args.input in
    let r = c.args.self.now.choice in
    let first : kind_in r ≡ LeftmostFirst = first_of (search rules, grind (arith, common_steps)) in
    let windowed : IsWindowed r.nfa x = first_of (search rules, grind (arith, common_steps)) in
    elim c.match-try_find_window.branch [
      | in-Ok-None w ↦ rw w.result-is tt
      | in-Ok-Some w ↦
          let y = search_of w.range.result in
          let v = w.in-Ok-Some.window in
          let has : HasWindow r.nfa x y v = record {
            windowed = windowed;
            window = first_of (search rules, grind (arith, common_steps));
            is = first_of (search rules, grind (arith, common_steps));
          } in
          let half : IsHalfAnswer r.nfa (kind_in r) x.earliest x (Some (half_in v)) =
          first_of (search rules, grind (arith, common_steps)) in
          rw w.result-is (window-answers has c.windows_answer.ensures (kind_in r) first half)
      | in-Err w ↦ rw w.result-is tt
    ]

pub returns-clause-ends : goal.returns-clause-ends
returns-clause-ends c =
    let x = search_of c.args.input in
    let r = c.args.self.now.choice in
    elim c.match-try_find_window.branch [
      | in-Ok-None w ↦ rw w.result-is tt
      | in-Ok-Some w ↦
          let v = w.in-Ok-Some.window in
          let half : IsHalfAnswer r.nfa (kind_in r) x.earliest x (Some (half_in v)) =
          first_of (search rules, grind (arith, common_steps)) in
          let ends : EndsAtMatch r.nfa (kind_in r) x (search_of w.range.result) = record {
            half = half_in v;
            found = half;
            ends = first_of (search rules, grind (arith, common_steps));
          } in
          rw w.result-is ends
      | in-Err w ↦ rw w.result-is tt
    ]
