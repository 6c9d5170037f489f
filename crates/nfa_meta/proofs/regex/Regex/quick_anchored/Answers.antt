-- The match starts with the span, and ends as the half match.
use Rattle.nfa_paths.proofs.Common.{rules, ◌≤◌, Some, arith, common_steps, half_found_of, search_of, IsAutomaton, IsHalfAnswer}
use Rattle.nfa_search_base.proofs.AskingLemmas.{pattern-of}
use Rattle.nfa_choice.specs.ChoiceState.{kind_in}
use Rattle.nfa_meta.proofs.AnchoredLemmas.{AnchoredSearch, half-after, match-of-half}
use Rattle.nfa_meta.proofs.regex.Regex.quick_anchored.Goals as goal

pub new-requires : goal.new-requires
new-requires c =
    let x = search_of c.args.input.now in
    let r = c.args.self.now.choice in
    let bound : AnchoredSearch r.nfa x = record {
      of = record {
        valid = first_of (search rules, grind (arith, common_steps));
        records = first_of (search rules, grind (arith, common_steps));
      };
      anchored = first_of (search rules, grind (arith, common_steps));
      ends = c.half_matches_are_ends.ensures;
      starts = c.anchored_matches_start_the_span.ensures;
    } in
    let half : IsHalfAnswer r.nfa (kind_in r) x.earliest x (Some (half_found_of c.in_ok-half.half)) =
    first_of (search rules, grind (arith, common_steps)) in
    let after : x.start ≤ (half_found_of c.in_ok-half.half).offset =
    half-after bound (kind_in r) x.earliest (half_found_of c.in_ok-half.half) half in
    first_of (search rules, grind (arith, common_steps))

pub returns-clause-answer : goal.returns-clause-answer
returns-clause-answer c =
    let x = search_of c.args.input.now in
    let r = c.args.self.now.choice in
    let bound : AnchoredSearch r.nfa x = record {
      of = record {
        valid = first_of (search rules, grind (arith, common_steps));
        records = first_of (search rules, grind (arith, common_steps));
      };
      anchored = first_of (search rules, grind (arith, common_steps));
      ends = c.half_matches_are_ends.ensures;
      starts = c.anchored_matches_start_the_span.ensures;
    } in
    let h = half_found_of c.in_ok-half.half in
    let half : IsHalfAnswer r.nfa (kind_in r) x.earliest x (Some h) =
    first_of (search rules, grind (arith, common_steps)) in
    let found = match-of-half bound (kind_in r) x.earliest (Some h) half in
    rw c.new.ensures (rw c.start.ensures (rw c.offset.ensures (rw c.pattern.ensures found)))

pub returns-clause-pattern : goal.returns-clause-pattern
returns-clause-pattern c =
    let r = c.args.self.now.choice in
    let x = search_of c.args.input.now in
    let valid : IsAutomaton r.nfa = first_of (search rules, grind (arith, common_steps)) in
    pattern-of r.nfa (kind_in r) x.earliest x valid (Some c.new.result) (returns-clause-answer c)
