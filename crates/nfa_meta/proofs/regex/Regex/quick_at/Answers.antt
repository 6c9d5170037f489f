-- The match of the anchored search at a start before which nothing matches is that of the search.
use Rattle.nfa_paths.proofs.Common.{rules, arith, IfSome, Some, common_steps, found_of, search_of, IsFindAnswer}
use Rattle.nfa_choice.specs.ChoiceState.{kind_in}
use Rattle.nfa_engines.specs.StartLaws.{anchored_at}
use Rattle.nfa_meta.proofs.AnchoredLemmas.{HasFirstStart}
use Rattle.nfa_meta.proofs.QuickLemmas.{match-at-start}
use Rattle.nfa_meta.proofs.regex.Regex.quick_at.Goals as goal

pub returns-clause-answer : goal.returns-clause-answer
returns-clause-answer c =
    let x = search_of c.args.input.now in
    let r = c.args.self.now.choice in
    let has : HasFirstStart r.nfa (kind_in r) x.earliest x c.args.at = record {
      leftmost = first_of (search rules, grind (arith, common_steps));
      starts = c.requires.anywhere;
      last = c.requires.last;
      first = c.requires.first;
    } in
    let answer : IfSome c.quick_anchored.result (λ m.
    IsFindAnswer r.nfa (kind_in r) x.earliest (anchored_at x c.args.at) (Some (found_of m))) =
    first_of (search rules, grind (arith, common_steps)) in
    match-at-start has c.first_start_answers.ensures.boundary c.quick_anchored.result answer
