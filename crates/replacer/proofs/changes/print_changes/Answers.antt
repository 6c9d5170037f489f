-- The changes go on by a line, and end if nothing is left to read.
use Rattle.std.proofs.Common.{rules, ◌≡◌, ◌∙◌, ◌+◌, ℕ, List, ap₂, arith, subst}
use Rattle.replacer.specs.Changes.{Becomes, changed_count}
use Rattle.replacer.specs.declared.command.Request.{Request}
use Rattle.replacer.proofs.ChangeLemmas.{changing-end, changing-step, count-small}
use Rattle.replacer.proofs.changes.print_changes.Goals as goal

pub returns-then-not-branch-clause-changes : goal.returns-then-not-branch-clause-changes
returns-then-not-branch-clause-changes g c =
    changing-end c.args.job.now c.args.style (g.R.Read.remaining c.args.input.now)
    (g.R.Read.remaining c.loop-before.input) (g.W.Write.contents c.args.out.now)
    (g.W.Write.contents c.loop-before.out) _ c.loop-before.count (c.in_ok-read_line.ensures.ended (search rules))
    c.loop-before.invariant.printed

pub loop-before-preserved : goal.loop-before-preserved
loop-before-preserved g c =
    let job = c.args.job.now in
    let line = c.read_line.new.line.items in
    let made = c.in_ok-made.made.items in
    let alone = subst (λ (j : Request). Becomes j c.deref.result.now made) c.loop-before.invariant.kept
    c.in_ok-made.ensures.printed in
    let becomes = subst (λ (l : List ℕ). Becomes job l made) c.deref.ensures.value alone in
    let counts : c.changed_count.result ≡ changed_count line made =
    c.changed_count.ensures
    ∙ ap₂ changed_count c.deref-in-loop-before.ensures.value c.deref-in-loop-before-2.ensures.value in
    let writes = rw (c.deref-in-loop-before-3.ensures.value, c.deref-in-loop-before-4.ensures.value)
    at c.in_ok-write_change.ensures in
    record {
      printed = rw counts
          (changing-step job c.args.style (g.R.Read.remaining c.args.input.now)
          (g.R.Read.remaining c.loop-before.input) (g.R.Read.remaining c.read_line.new.input)
          (g.W.Write.contents c.args.out.now) (g.W.Write.contents c.loop-before.out)
          (g.W.Write.contents c.write_change.new.out) (c.loop-before.before + 1) c.loop-before.count line made
          (c.in_ok-read_line.ensures.taken (search rules)) becomes writes c.loop-before.invariant.printed);
      counted = omega (arith, c.loop-before.invariant.counted, counts, count-small line made);
      kept = c.in_ok-made.ensures.kept ∙ c.loop-before.invariant.kept;
    }
