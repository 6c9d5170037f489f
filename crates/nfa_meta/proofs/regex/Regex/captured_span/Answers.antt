-- The two slots of the match at the likely start are those of the search, and give its span.
use Rattle.nfa_paths.proofs.Common.{rules, ◌≡◌, ◌∙◌, Some, ap, arith, common_steps, sym, found_of, search_of, match_of}
use Rattle.nfa_search_base.proofs.SpanLemmas.{spans-inside}
use Rattle.nfa_meta.specs.MatchSlots.{match_slots}
use Rattle.nfa_meta.proofs.MatchSlotLemmas.{match-held, match_slots-inside}
use Rattle.nfa_meta.proofs.regex.Regex.captured_span.Goals as goal

pub returns-in-Some-clause-span : goal.returns-in-Some-clause-span
returns-in-Some-clause-span c =
    let m = found_of c.in-Some.found in
    let new = c.fill_captures.new.captures in
    let same : match_of (Some m.pattern) (match_slots m) ≡ Some m = c.in-Some.ensures.same in
    let is : match_of new.pattern new.slots ≡ Some m = rw c.fill_captures.ensures same in
    ap (λ s. Some s) c.span.ensures ∙ sym (match-held new m is)

pub returns-in-Some-clause-fills : goal.returns-in-Some-clause-fills
returns-in-Some-clause-fills c =
    let x = search_of c.args.input.now in
    let inside = match_slots-inside x (found_of c.in-Some.found) c.in-Some.ensures.inside in
    record {
      groups = first_of (search rules, grind (arith, common_steps));
      count = first_of (search rules, grind (arith, common_steps));
      unmatched = first_of (search rules, grind (arith, common_steps));
      pattern = first_of (search rules, grind (arith, common_steps));
      inside = rw c.fill_captures.ensures inside;
      spans = rw c.fill_captures.ensures (spans-inside x _ inside);
    }
