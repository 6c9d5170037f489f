-- The groups in the part are those of the search.
use Rattle.nfa_paths.proofs.Common.{rules, ◌∙◌, Bool, arith, subst, common_steps, found_of, search_of, IsAnswer, ap}
use Rattle.nfa_choice.specs.ChoiceState.{kind_in}
use Rattle.nfa_search_base.proofs.SpanLemmas.{spans-inside}
use Rattle.nfa_meta.proofs.MatchSlotLemmas.{match_slots-inside}
use Rattle.nfa_meta.proofs.WindowLemmas.{part-earliest}
use Rattle.nfa_meta.specs.RegexState.{RegexState}
use Rattle.nfa_choice.specs.ChoiceState.{SearchedByRule}
use Rattle.nfa_meta.specs.WindowRuns.{NeedsPart}
use Rattle.nfa_meta.proofs.RunLemmas.{part-ran}
use Rattle.nfa_meta.proofs.regex.Regex.fill_past_quick.Goals as goal

pub returns-in-Err-Some-clause-answer : goal.returns-in-Err-Some-clause-answer
returns-in-Err-Some-clause-answer c =
    let r = c.args.self.now.choice in
    let y = search_of c.in-Err-Some.part in
    let answers = rw c.in-Err-Some.field-0-is at c.in-Err-Some.ensures.answers in
    let part = rw c.in-Err-Some.field-0-is at c.in-Err-Some.ensures.part in
    answers.rows _ _ (subst (λ (b : Bool).
    IsAnswer r.nfa (kind_in r) b y c.search.new.captures.pattern c.search.new.captures.slots)
    (part-earliest r.nfa (search_of c.args.input.now) y part)
    (rw (ap (λ (s : RegexState). s.choice) c.self.view_is ∙ c.match_past_quick.ensures.same)
    at c.search.ensures.answer))

pub returns-in-Ok-clause-fills : goal.returns-in-Ok-clause-fills
returns-in-Ok-clause-fills c =
    let x = search_of c.args.input.now in
    let inside = match_slots-inside x (found_of c.in-Ok.found) c.in-Ok.ensures.inside in
    record {
      groups = first_of (search rules, grind (arith, common_steps));
      count = first_of (search rules, grind (arith, common_steps));
      unmatched = first_of (search rules, grind (arith, common_steps));
      pattern = first_of (search rules, grind (arith, common_steps));
      inside = rw c.fill_captures.ensures inside;
      spans = rw c.fill_captures.ensures (spans-inside x _ inside);
    }

pub returns-in-Err-Some-clause-runs : goal.returns-in-Err-Some-clause-runs
returns-in-Err-Some-clause-runs c =
    let a = c.args.self.now in
    let b = c.match_past_quick.new.self in
    let x = search_of c.args.input.now in
    let y = search_of c.in-Err-Some.part in
    let why : NeedsPart x y a b = rw c.in-Err-Some.field-0-is at c.in-Err-Some.ensures.why in
    let ran : SearchedByRule y b.choice c.search.new.self =
    rw (ap (λ (s : RegexState). s.choice) c.self.view_is) at c.search.ensures.runs in
    part-ran a b _ c.match_past_quick.ensures.same x y why (first_of (search rules, grind (arith, common_steps))) ran
