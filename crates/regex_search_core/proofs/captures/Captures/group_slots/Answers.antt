-- The spans at the slots are those of the groups.
use Rattle.std.proofs.Common.{◌≡◌, ◌*◌, Some, ap, refl}
use Rattle.regex_search_core.specs.PatternSets.{number_of}
use Rattle.regex_search_core.proofs.GroupLemmas.{spans_at-groups}
use Rattle.regex_search_core.proofs.captures.Captures.group_slots.Goals as goal

pub returns-clause-spans : goal.returns-clause-spans
returns-clause-spans c =
    let p = number_of c.in_ok-pattern.pattern in
    let says = c.in_ok-explicit.ensures in
    let at : c.as_usize.result * 2 ≡ p * 2 = ap (λ n. n * 2) c.as_usize.ensures.value in
    let is : c.args.self.now.pattern ≡ Some p = rw (← c.self.view_is) (rw c.in_ok-pattern.was refl) in
    let same = c.group_info.ensures in
    spans_at-groups c.args.self.now p _ _ _ is (rw (← same) (says.known.0 refl)) at (rw (← same) says.first)
    (rw (← same) says.count)
