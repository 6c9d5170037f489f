-- The searches so far led from the regex to the one that the iterator leaves at its end.
use Rattle.nfa_paths.proofs.Common.{rules, ◌∙◌, ap, arith, common_steps, subst, sym}
use Rattle.nfa_meta.specs.Matches.{FindsGiveKept}
use Rattle.nfa_meta.specs.RegexState.{KeepsRegex, RegexState}
use Rattle.nfa_meta.specs.declared.regex.find_iter.FindMatches.{FindMatches}
use Rattle.nfa_meta.proofs.regex.Regex.first_matches.Goals as goal

pub returns-clause-keeps : goal.returns-clause-keeps
returns-clause-keeps c =
    let gives = c.into_iter-found-iterator.ensures.into_iter_gives in
    let same = ap (λ (s : FindMatches). s.regex.now) gives ∙ c.find_iter-found-items.ensures.same_regex in
    let kept = subst FindsGiveKept (sym gives) c.find_iter-found-items.ensures.keeps c.loop-found.yielded _ _ _
    c.loop-found.yielded_by c.in-None.ensures.steps in
    let fact : KeepsRegex c.args.self.now c.next.new.self.regex.now =
    subst (λ (r : RegexState). KeepsRegex r c.next.new.self.regex.now) same kept.keeps in
    first_of (search (rules, fact), grind (arith, common_steps, fact))
