-- A step over the byte at the position goes on, and so do those without slots after it.
use Rattle.nfa_paths.proofs.Common.{rules, ◌≡◌, ◌∙◌, Err, ap, arith, common_steps, sym, search_of}
use Rattle.nfa_onepass.specs.declared.way.NoWay.TheVariants.{Nothing}
use Rattle.nfa_onepass.specs.declared.table.Setup.{Setup}
use Rattle.nfa_onepass.proofs.TableLemmas.{IsNowhere-walking, IsWalking-takes, row-inside}
use Rattle.nfa_onepass.proofs.table.OnePass.walk.Goals as goal

pub pass-place-requires-in-loop-place-clause-row : goal.pass-place-requires-in-loop-place-clause-row
pass-place-requires-in-loop-place-clause-row c =
    let w = c.loop-place.invariant.walking in
    let takes = c.in_ok-row.ensures.takes w.state w.here in
    row-inside c.step_over.new.self.rows.items c.in_ok-row.row takes.to takes.is

pub loop-place-preserved : goal.loop-place-preserved
loop-place-preserved c =
    let w = c.loop-place.invariant.walking in
    let slots = c.step_over.new.slots in
    record {
      own = c.in_ok-row.ensures.own;
      setup = c.in_ok-row.ensures.setup ∙ c.loop-place.invariant.setup;
      high = c.pass-place-in-loop-place.ensures.high;
      walking = c.pass-place-in-loop-place.ensures.walking slots (IsWalking-takes c.args.nfa.now
          (search_of c.args.input.now) c.loop-place.self c.step_over.new.self c.loop-place.place.row
          c.in-Some.byte c.loop-place.place.at c.loop-place.slots slots c.in_ok-row.row c.in_ok-row.ensures.own
          c.in_ok-row.ensures.setup w
          (sym c.byte_at.ensures ∙ c.in-Some.is) (c.in_ok-row.ensures.takes w.state w.here));
    }

pub returns-in_err-row-clause-nothing : goal.returns-in_err-row-clause-nothing
returns-in_err-row-clause-nothing c plain err =
    let w = c.loop-place.invariant.walking in
    let why : c.in_err-row.field-0.0 ≡ Nothing = first_of (search (rules, err), grind (arith, common_steps, err)) in
    IsNowhere-walking c.args.nfa.now (search_of c.args.input.now) c.loop-place.self c.loop-place.place.row
    c.in-Some.byte c.loop-place.place.at c.loop-place.slots c.loop-place.invariant.own
    (ap (λ (s : Setup). s.looks) c.loop-place.invariant.setup ∙ plain) w
    (sym c.byte_at.ensures ∙ c.in-Some.is) (c.in_err-row.ensures.nothing w.state w.here (ap Err why))
