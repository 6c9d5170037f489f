-- Each call gives one item more. At the end they were those of all matches.
use Rattle.std.proofs.Common.{◌++◌, [], ◌∷◌, Option, subst, sym}
use Rattle.std.proofs.lemmas.List.{map_push}
use Rattle.nfa_engines.specs.Search.{search_of}
use Rattle.nfa_search_base.specs.Common.{Bor, Captured, LendsItem, group_span}
use Rattle.nfa_search_base.proofs.DrainedLemmas.{given-drained}
use Rattle.nfa_search_base.proofs.LentLemmas.{lent-more}
use Rattle.nfa_meta.specs.CapturesMatches.{captures_left, captures_next}
use Rattle.nfa_meta.proofs.CaughtLemmas.{all-caught}
use Rattle.callers.proofs.regexes.group_spans.Goals as goal

pub loop-captures-preserved : goal.loop-captures-preserved
loop-captures-preserved c =
    let l = c.loop-captures in
    let i = l.invariant in
    let next = c.next_lent.follows.lender-at-none in
    let d = c.in-Some.captures.now in
    let lends : Option (Bor Captured) → Type 0 = λ lent. LendsItem captures_next captures_left l.items lent next in
    let given = subst lends c.in-Some.is c.next_lent.follows.holds-at-none in
    record {
      caught = i.caught ++ d ∷ [];
      ran = lent-more captures_next i.caught c.in_ok-items.items l.items next d i.ran given.call;
      spans = rw (c.in_ok-push.ensures.items, i.spans, c.get_group.ensures)
          (sym (map_push (λ (e : Captured). group_span e c.args.group) i.caught d));
    }

pub returns : goal.returns
returns c =
    let l = c.loop-captures in
    let i = l.invariant in
    let next = c.next_lent.follows.lender-at-none in
    let lends : Option (Bor Captured) → Type 0 = λ lent. LendsItem captures_next captures_left l.items lent next in
    let given = subst lends c.in_default.is c.next_lent.follows.holds-at-none in
    let all = given-drained c.in_ok-items.ensures.given i.caught l.items next i.ran given.call in
    record {
      caught = i.caught;
      all = all-caught c.args.regex.now.choice c.args.text.now (search_of c.new.result) c.new.ensures i.caught all.0
          all.2;
      spans_are = i.spans;
    }
