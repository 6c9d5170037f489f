-- The search goes on from the next position.
use Rattle.nfa_paths.proofs.Common.{rules, Bool, ◌≡◌, ◌∙◌, ◌+◌, false, ap, arith, None, subst, sym, common_steps, search_of, IsHalfAnswer, LeftmostFirst, Search}
use Rattle.nfa_choice.specs.ChoiceState.{ChoiceState, kind_in}
use Rattle.nfa_engines.specs.StartLaws.{IsFirstStart, StartsAnywhere, anchored_at, from_start}
use Rattle.nfa_meta.proofs.GoesOnLemmas.{matches-on}
use Rattle.nfa_meta.proofs.RegexLemmas.{regex_then}
use Rattle.nfa_meta.proofs.regex.Regex.find_from.Goals as goal

pub loop-preserved : goal.loop-preserved
loop-preserved c =
    let r = c.args.self.now.choice in
    let y = search_of c.loop.rest in
    let z = search_of c.set_start.new.self in
    let inv = c.loop.invariant in
    let at = c.loop.at in
    let leftmost : kind_in r ≡ LeftmostFirst = first_of (search rules, grind (arith, common_steps)) in
    let given : IsHalfAnswer c.loop.self.choice.nfa (kind_in c.loop.self.choice) y.earliest (anchored_at y at) None =
    rw c.in_default.is at c.in_ok-found.ensures.none in
    let none : IsHalfAnswer r.nfa (kind_in r) false (anchored_at y at) None =
    subst (λ (e : Bool). IsHalfAnswer r.nfa (kind_in r) e (anchored_at y at) None) inv.last
    (subst (λ (s : ChoiceState). IsHalfAnswer s.nfa (kind_in s) y.earliest (anchored_at y at) None) inv.same given) in
    let is : z ≡ from_start y (at + 1) = first_of (search rules, grind (arith, common_steps)) in
    record {
      same = c.find_at_start.ensures.same ∙ inv.same;
      keeps = regex_then _ _ _ inv.keeps c.find_at_start.ensures.keeps;
      anywhere = subst (StartsAnywhere r.nfa) (sym is)
          (record { unanchored = inv.anywhere.unanchored; prefixed = inv.anywhere.prefixed });
      last = ap (λ (w : Search). w.earliest) is ∙ inv.last;
      first = subst (λ (w : Search). IsFirstStart r.nfa w (at + 1)) (sym is)
          (c.bytes_may_be_skipped.ensures.first r.nfa (from_start y (at + 1)));
      within = first_of (search rules, grind (arith, common_steps));
      on = matches-on c.searches_go_on.ensures.goes_on leftmost inv.anywhere inv.first none inv.on z is;
    }
