-- The match of the anchored search at a start before which nothing matches is that of the search.
use Rattle.nfa_paths.proofs.Common.{rules, arith, option_map, IfNone, IfSome, common_steps, found_of, search_of, IsFindAnswer}
use Rattle.nfa_choice.specs.ChoiceState.{kind_in}
use Rattle.nfa_engines.specs.Laws.{MatchesNothing}
use Rattle.nfa_engines.specs.StartLaws.{anchored_at}
use Rattle.nfa_meta.proofs.AnchoredLemmas.{HasFirstStart, found-at-start, next-of}
use Rattle.nfa_meta.proofs.regex.Regex.find_at_start.Goals as goal

pub returns-clause-answer : goal.returns-clause-answer
returns-clause-answer c =
    let x = search_of c.args.input in
    let r = c.args.self.now.choice in
    let has : HasFirstStart r.nfa (kind_in r) x.earliest x c.args.at = record {
      leftmost = first_of (search rules, grind (arith, common_steps));
      starts = c.requires.anywhere;
      last = c.requires.last;
      first = c.requires.first;
    } in
    let answer : IfSome c.find_anchored.result (λ found.
    IsFindAnswer r.nfa (kind_in r) x.earliest (anchored_at x c.args.at) (option_map found_of found)) =
    first_of (search rules, grind (arith, common_steps)) in
    found-at-start has c.first_start_answers.ensures.boundary c.find_anchored.result answer

pub returns-clause-moves : goal.returns-clause-moves
returns-clause-moves c = λ anywhere.
    let x = search_of c.args.input in
    let r = c.args.self.now.choice in
    let nothing : IfSome c.find_anchored.result (λ found.
    IfNone found (MatchesNothing r.nfa (anchored_at x c.args.at))) =
    first_of (search rules, grind (arith, common_steps)) in
    next-of r.nfa x c.args.at c.requires.first c.find_anchored.result nothing
