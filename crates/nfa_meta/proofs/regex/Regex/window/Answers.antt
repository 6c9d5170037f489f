-- The window of what is left of the input is that of the input.
use Rattle.nfa_paths.proofs.Common.{search_of}
use Rattle.nfa_choice.specs.ChoiceState.{kind_in}
use Rattle.nfa_meta.specs.WindowRuns.{AnswersAs, HalvesAs, IsWindowOf}
use Rattle.nfa_meta.proofs.WindowLemmas.{window-on}
use Rattle.nfa_meta.proofs.regex.Regex.window.Goals as goal

pub returns-in-Some : goal.returns-in-Some
returns-in-Some c =
    let r = c.args.self.now.choice in
    let x = search_of c.args.input in
    let y = search_of c.in-Some.rest in
    let of : IsWindowOf r.nfa x y = rw c.in-Some.is at c.from_prefix.ensures.part in
    let answers : AnswersAs r.nfa (kind_in r) x y = rw c.in-Some.is at c.from_prefix.ensures.answers in
    let halves : HalvesAs r.nfa (kind_in r) x y = rw c.in-Some.is at c.from_prefix.ensures.halves in
    window-on c.args.self.now c.window_in.result of answers halves c.window_in.ensures
