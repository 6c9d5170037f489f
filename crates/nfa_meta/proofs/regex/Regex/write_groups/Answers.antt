-- The slots of the only path over the span of the match are those of the search.
use Rattle.nfa_paths.proofs.Common.{rules, arith, common_steps, ◌≡◌, ◌∙◌, false, found_of, search_of, LeftmostFirst, IsAutomaton, ap}
use Rattle.nfa_engines.specs.SpanLaws.{cut_to}
use Rattle.nfa_facts.specs.StatePaths.{RecordsMatchSpans}
use Rattle.nfa_choice.specs.ChoiceState.{kind_in}
use Rattle.nfa_meta.proofs.GroupLemmas.{groups-answer, groups-write}
use Rattle.nfa_meta.specs.RegexState.{RegexState}
use Rattle.nfa_meta.proofs.regex.Regex.write_groups.Goals as goal

pub returns-clause-answer : goal.returns-clause-answer
returns-clause-answer c =
    let r = c.args.self.now.choice in
    let x = search_of c.args.input.now in
    let m = found_of c.args.found in
    let first : kind_in r ≡ LeftmostFirst = first_of (search rules, grind (arith, common_steps)) in
    let latest : x.earliest ≡ false = first_of (search rules, grind (arith, common_steps)) in
    let is : search_of c.span-span.result ≡ cut_to x m.start m.end x.anchored =
    first_of (search rules, grind (arith, common_steps)) in
    let valid : IsAutomaton r.nfa = first_of (search rules, grind (arith, common_steps)) in
    let records : RecordsMatchSpans r.nfa = first_of (search rules, grind (arith, common_steps)) in
    groups-answer r.nfa (kind_in r) x c.search_span.new.slots c.search_span.result c.only_slots_answer.ensures
    (search_of c.span-span.result) m first latest is valid records c.requires.found
    (rw (c.get_nfa.ensures ∙ ap (λ (s : RegexState). s.choice.nfa) c.self.view_is) at c.search_span.ensures.only)

pub returns-clause-writes : goal.returns-clause-writes
returns-clause-writes c =
    let r = c.args.self.now.choice in
    let valid : IsAutomaton r.nfa = first_of (search rules, grind (arith, common_steps)) in
    groups-write r.nfa (kind_in r) (search_of c.args.input.now) c.search_span.new.slots c.search_span.result
    c.args.slots.now valid (returns-clause-answer c)
