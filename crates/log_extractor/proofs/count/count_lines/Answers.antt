-- The run goes on by a line, and ends if nothing is left to read.
use Rattle.nfa_paths.proofs.Common.{rules, ◌≡◌, false, true, ◌++◌, [], ◌∷◌, append-nil, append_assoc, flat_map, refl, flat_map-append}
use Rattle.log_extractor.specs.Counts.{value_in}
use Rattle.log_extractor.proofs.GoingLemmas.{taken-all, taken-more, taken-none}
use Rattle.log_extractor.proofs.count.count_lines.Goals as goal

pub loop-before-init : goal.loop-before-init
loop-before-init g c = record {
  counted = λ ps is values tally. taken-none _ _ (rw append-nil tally);
  kept = refl;
}

pub returns-then-not-branch-clause-counted : goal.returns-then-not-branch-clause-counted
returns-then-not-branch-clause-counted g c = λ ps is values tally.
    let none : c.in_ok-count_next.field-0 ≡ false = search rules in
    rw (c.in_ok-count_next.ensures.ended none)
    (taken-all _ _ _ (rw none at c.in_ok-count_next.ensures.counted)
    (c.loop-before.invariant.counted ps is values tally))

pub loop-before-preserved : goal.loop-before-preserved
loop-before-preserved g c =
    let inv = c.loop-before.invariant in
    let some : c.in_ok-count_next.field-0 ≡ true = search rules in
    let next = rw some at c.in_ok-count_next.ensures.counted in
    record {
      counted = λ ps is values tally.
          let value = value_in c.args.rows.now.selection ps c.args.column in
          taken-more _ _ _ _ _ next.0 next.1 (λ lines so-far.
          rw (
            flat_map-append value lines (next.0 ∷ []),
            append-nil,
            ← append_assoc values (flat_map value lines) (value next.0),
          )
          (rw inv.kept at (next.2 ps (rw inv.kept is) (values ++ flat_map value lines) so-far)))
          (inv.counted ps is values tally);
      kept = search rules;
    }
