-- It allocates only if there was a match.
use Rattle.nfa_paths.proofs.Common.{rules, ◌∙◌, ◌+◌, ◌*◌, List, ap, arith, common_steps, length, subst, sym, search_of, span_len, Match}
use Rattle.nfa_search_base.specs.Common.{MatchesGiven}
use Rattle.nfa_search_base.proofs.ListLemmas.{none-before}
use Rattle.nfa_engines.specs.IterationLaws.{list_scan_limit}
use Rattle.nfa_choice.specs.ChoiceState.{kind_in}
use Rattle.nfa_meta.specs.Matches.{FindsGiveKept, FindsWorkWithin, finds_next}
use Rattle.nfa_meta.specs.RegexState.{KeepsRegex, RegexState}
use Rattle.nfa_meta.specs.Work.{WorksWithin}
use Rattle.nfa_meta.specs.declared.regex.find_iter.FindMatches.{FindMatches}
use Rattle.nfa_meta.proofs.regex.Regex.find_all.Goals as goal

pub returns-in_err-push-clause-lists : goal.returns-in_err-push-clause-lists
returns-in_err-push-clause-lists c =
    let nfa = c.args.self.now.choice.nfa in
    let kind = kind_in c.args.self.now.choice in
    let x = search_of c.args.input in
    let given : MatchesGiven nfa kind x finds_next c.into_iter-item-iterator.result =
    subst (λ s. MatchesGiven nfa kind x finds_next s) (sym c.into_iter-item-iterator.ensures.into_iter_gives)
    c.find_iter-item-items.ensures.given in
    record {
      granted = λ none. absurd (none-before nfa kind x.earliest x c.loop-item.yielded c.in-Some.item
          (given.next c.loop-item.yielded _ _ _ c.loop-item.yielded_by c.in-Some.ensures.steps) none);
      all = search rules;
      disjoint = search rules;
    }

-- the searches so far led from the regex to the one that the iterator leaves at its end
pub returns-clause-keeps : goal.returns-clause-keeps
returns-clause-keeps c =
    let gives = c.into_iter-item-iterator.ensures.into_iter_gives in
    let same = ap (λ (s : FindMatches). s.regex.now) gives ∙ c.find_iter-item-items.ensures.same_regex in
    let kept = subst FindsGiveKept (sym gives) c.find_iter-item-items.ensures.keeps c.loop-item.yielded _ _ _
    c.loop-item.yielded_by c.in-None.ensures.steps in
    let fact : KeepsRegex c.args.self.now c.next.new.self.regex.now =
    subst (λ (r : RegexState). KeepsRegex r c.next.new.self.regex.now) same kept.keeps in
    first_of (search (rules, fact), grind (arith, common_steps, fact))

pub returns-clause-work : goal.returns-clause-work
returns-clause-work c =
    let x = search_of c.args.input in
    let gives = c.into_iter-item-iterator.ensures.into_iter_gives in
    let same = ap (λ (s : FindMatches). s.regex.now) gives ∙ c.find_iter-item-items.ensures.same_regex in
    let by = subst (FindsWorkWithin x) (sym gives) c.find_iter-item-items.ensures.work in
    let on = by.on c.loop-item.yielded _ _ _ c.loop-item.yielded_by c.in-None.ensures.steps in
    let fact : WorksWithin (2 * span_len x + 3) (2 * length c.args.self.now.choice.nfa.groups) x c.args.self.now
    c.next.new.self.regex.now =
    subst (λ (r : RegexState). WorksWithin (2 * span_len x + 3) (2 * length r.choice.nfa.groups) x r
    c.next.new.self.regex.now) same on in
    first_of (search (rules, fact), grind (arith, common_steps, fact))

pub returns-clause-list_work : goal.returns-clause-list_work
returns-clause-list_work c =
    let x = search_of c.args.input in
    let gives = c.into_iter-item-iterator.ensures.into_iter_gives in
    let same = ap (λ (s : FindMatches). s.regex.now) gives ∙ c.find_iter-item-items.ensures.same_regex in
    let by = subst (FindsWorkWithin x) (sym gives) c.find_iter-item-items.ensures.work in
    let end = by.to_end c.loop-item.yielded _ _ c.loop-item.yielded_by c.in-None.ensures.steps in
    let left = subst (λ (r : RegexState). WorksWithin (list_scan_limit r.choice.nfa x (length c.loop-item.yielded))
    (2 * length r.choice.nfa.groups) x r c.next.new.self.regex.now) same end in
    let fact : WorksWithin (list_scan_limit c.args.self.now.choice.nfa x (length c.loop-item.found.items))
    (2 * length c.args.self.now.choice.nfa.groups) x c.args.self.now c.next.new.self.regex.now =
    subst (λ (ms : List Match). WorksWithin (list_scan_limit c.args.self.now.choice.nfa x (length ms))
    (2 * length c.args.self.now.choice.nfa.groups) x c.args.self.now c.next.new.self.regex.now)
    (sym c.loop-item.invariant) left in
    first_of (search (rules, fact), grind (arith, common_steps, fact))
