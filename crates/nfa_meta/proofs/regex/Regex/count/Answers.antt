-- The items so far are the first matches, and all of them at the end.
use Rattle.nfa_paths.proofs.Common.{rules, ◌∙◌, ◌+◌, ◌*◌, ℕ, List, ap, arith, common_steps, length, map, subst, sym, found_of, search_of, span_len, Match}
use Rattle.std.proofs.iter.runs.Made.{run_of_exit}
use Rattle.std.proofs.lemmas.List.{length-map}
use Rattle.nfa_search_base.specs.Common.{AreMatches, MatchesGiven}
use Rattle.nfa_engines.specs.IterationLaws.{list_scan_limit}
use Rattle.nfa_choice.specs.ChoiceState.{kind_in}
use Rattle.nfa_meta.specs.Counted.{CountsMatches}
use Rattle.nfa_meta.specs.Matches.{FindsGiveKept, FindsWorkWithin, finds_next}
use Rattle.nfa_meta.specs.RegexState.{KeepsRegex, RegexState}
use Rattle.nfa_meta.specs.Work.{WorksWithin}
use Rattle.nfa_meta.specs.declared.regex.find_iter.FindMatches.{FindMatches}
use Rattle.nfa_meta.proofs.CountLemmas.{few-matches}
use Rattle.nfa_meta.proofs.regex.Regex.count.Goals as goal

pub overflow_add-count : goal.overflow_add-count
overflow_add-count c =
    let nfa = c.args.self.now.choice.nfa in
    let kind = kind_in c.args.self.now.choice in
    let x = search_of c.args.input in
    let ms = c.loop-found.yielded in
    let given : MatchesGiven nfa kind x finds_next c.into_iter-found-iterator.result =
    subst (λ s. MatchesGiven nfa kind x finds_next s) (sym c.into_iter-found-iterator.ensures.into_iter_gives)
    c.find_iter-found-items.ensures.given in
    let few = few-matches nfa kind x ms (given.first ms _ c.loop-found.yielded_by) in
    omega (arith, few, c.loop-found.invariant, c.args.input.within, c.args.input.short)

pub returns-clause-most : goal.returns-clause-most
returns-clause-most c =
    let nfa = c.args.self.now.choice.nfa in
    let kind = kind_in c.args.self.now.choice in
    let x = search_of c.args.input in
    let ms = c.loop-found.yielded in
    let given : MatchesGiven nfa kind x finds_next c.into_iter-found-iterator.result =
    subst (λ s. MatchesGiven nfa kind x finds_next s) (sym c.into_iter-found-iterator.ensures.into_iter_gives)
    c.find_iter-found-items.ensures.given in
    omega (arith, few-matches nfa kind x ms (given.first ms _ c.loop-found.yielded_by), c.loop-found.invariant)

pub returns-clause-matches : goal.returns-clause-matches
returns-clause-matches c =
    let nfa = c.args.self.now.choice.nfa in
    let kind = kind_in c.args.self.now.choice in
    let x = search_of c.args.input in
    let ms = c.loop-found.yielded in
    let gives = c.into_iter-found-iterator.ensures.into_iter_gives in
    let same = ap (λ (s : FindMatches). s.regex.now) gives ∙ c.find_iter-found-items.ensures.same_regex in
    let given : MatchesGiven nfa kind x finds_next c.into_iter-found-iterator.result =
    subst (λ s. MatchesGiven nfa kind x finds_next s) (sym gives) c.find_iter-found-items.ensures.given in
    let run = run_of_exit finds_next c.into_iter-found-iterator.result ms _ c.loop-found.yielded_by _
    c.in-None.ensures.steps in
    let all = subst (λ (xs : List Match). AreMatches nfa kind x.earliest x (map found_of xs)) run.3.0
    ((given.runs run.0 run.0.seen run.1).1 run.2) in
    let by = subst (FindsWorkWithin x) (sym gives) c.find_iter-found-items.ensures.work in
    let end = by.to_end ms _ _ c.loop-found.yielded_by c.in-None.ensures.steps in
    let left = subst (λ (r : RegexState). WorksWithin (list_scan_limit r.choice.nfa x (length ms))
    (2 * length r.choice.nfa.groups) x r c.next.new.self.regex.now) same end in
    let fact : CountsMatches x c.args.self.now c.next.new.self.regex.now c.loop-found.count = record {
      all = map found_of ms;
      are_all = all;
      count_is = omega (arith, length-map ms found_of, c.loop-found.invariant);
      list_work = subst (λ (n : ℕ). WorksWithin (list_scan_limit nfa x n) (2 * length nfa.groups) x c.args.self.now
          c.next.new.self.regex.now) (sym c.loop-found.invariant) left;
    } in
    first_of (search (rules, fact), grind (arith, common_steps, fact))

-- the searches so far led from the regex to the one that the iterator leaves at its end
pub returns-clause-keeps : goal.returns-clause-keeps
returns-clause-keeps c =
    let gives = c.into_iter-found-iterator.ensures.into_iter_gives in
    let same = ap (λ (s : FindMatches). s.regex.now) gives ∙ c.find_iter-found-items.ensures.same_regex in
    let kept = subst FindsGiveKept (sym gives) c.find_iter-found-items.ensures.keeps c.loop-found.yielded _ _ _
    c.loop-found.yielded_by c.in-None.ensures.steps in
    let fact : KeepsRegex c.args.self.now c.next.new.self.regex.now =
    subst (λ (r : RegexState). KeepsRegex r c.next.new.self.regex.now) same kept.keeps in
    first_of (search (rules, fact), grind (arith, common_steps, fact))

pub returns-clause-work : goal.returns-clause-work
returns-clause-work c =
    let x = search_of c.args.input in
    let gives = c.into_iter-found-iterator.ensures.into_iter_gives in
    let same = ap (λ (s : FindMatches). s.regex.now) gives ∙ c.find_iter-found-items.ensures.same_regex in
    let by = subst (FindsWorkWithin x) (sym gives) c.find_iter-found-items.ensures.work in
    let on = by.on c.loop-found.yielded _ _ _ c.loop-found.yielded_by c.in-None.ensures.steps in
    let fact : WorksWithin (2 * span_len x + 3) (2 * length c.args.self.now.choice.nfa.groups) x c.args.self.now
    c.next.new.self.regex.now =
    subst (λ (r : RegexState). WorksWithin (2 * span_len x + 3) (2 * length r.choice.nfa.groups) x r
    c.next.new.self.regex.now) same on in
    first_of (search (rules, fact), grind (arith, common_steps, fact))
