-- The walk was over the whole span, so what it gives is the answer.
use Rattle.nfa_paths.proofs.Common.{rules, ◌≡◌, Err, ap, arith, common_steps, false, length, search_of, number_of, subst, sym, None, IsAnswer, LeftmostFirst}
use Rattle.nfa_paths.specs.Exploring.{Slots}
use Rattle.nfa_onepass.specs.declared.way.NoWay.TheVariants.{Nothing}
use Rattle.nfa_onepass.proofs.WholeLemmas.{nowhere-answer, whole-answer}
use Rattle.nfa_onepass.proofs.table.OnePass.search_whole.Goals as goal
use Rattle.nfa_onepass.proofs.table.OnePass.search_whole.Goals.{in-Err-Nothing, in-Ok}

pub returns-clause-answer : goal.returns-clause-answer
returns-clause-answer c =
    let nfa = c.args.nfa.now in
    let x = search_of c.args.input.now in
    let whole = c.if-not-is_whole.false in
    let anchored = c.is_whole.ensures.anchored whole in
    let anywhere = c.is_whole.ensures.anywhere whole in
    let plain = c.answers_alone.ensures.looks c.if-not-answers_alone.false in
    elim c.match-walk_span.branch [
      | in-Ok w ↦ rw (w.slots-is, w.found-is) (whole-answer nfa x (number_of w.in-Ok.pattern) c.walk_span.new.slots
          (c.is_whole.ensures.order whole) anchored
          (w.in-Ok.ensures.whole plain (c.is_whole.ensures.end whole)) anywhere)
      | in-Err-Nothing w ↦
          let why : w.in-Err-Nothing.field-0 ≡ Nothing = first_of (search rules, grind (arith, common_steps)) in
          rw (w.slots-is, w.found-is) (subst (λ (z : Slots). IsAnswer nfa LeftmostFirst false x None z)
          (sym w.unset.ensures)
          (nowhere-answer nfa x anchored (w.in-Err-Nothing.ensures.nothing plain (ap Err why))
          (length c.walk_span.new.slots) anywhere))
    ]
