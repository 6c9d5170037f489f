-- The run starts, goes on by a line, and ends if nothing is left to read.
use Rattle.std.proofs.Common.{rules, ◌∙◌, ap}
use Rattle.replacer.specs.Printed.{feed_of, without_feed}
use Rattle.replacer.proofs.GoingLemmas.{going-end, going-init, going-step}
use Rattle.replacer.proofs.PrintedLemmas.{search-kept}
use Rattle.replacer.proofs.job.print_lines.Goals as goal

pub loop-before-init : goal.loop-before-init
loop-before-init g c = record {
  printed = λ pattern re hits of all.
      going-init c.args.regex.now.choice.nfa.groups hits c.args.action.now c.args.limit
      (g.R.Read.remaining c.args.input.now) (g.W.Write.contents c.args.out.now);
  keeps = search rules;
}

pub returns-then-not-branch-clause-printed : goal.returns-then-not-branch-clause-printed
returns-then-not-branch-clause-printed g c = λ pattern re hits of all.
    going-end c.args.regex.now.choice.nfa.groups hits c.args.action.now c.args.limit _
    (g.R.Read.remaining c.loop-before.input) _ _ c.loop-before.left (c.in_ok-read_line.ensures.ended (search rules))
    (c.loop-before.invariant.printed pattern re hits of all)

pub loop-before-preserved : goal.loop-before-preserved
loop-before-preserved g c =
    let r = c.args.regex.now.choice in
    let keeps = c.loop-before.invariant.keeps.engines in
    let bytes = c.read_line.new.line.items in
    record {
      printed = λ pattern re hits of all.
          let text = c.of.result.text.now in
          let text-is = c.of.ensures.text ∙ ap without_feed c.deref.ensures.value in
          let end-is = c.of.ensures.end ∙ ap feed_of c.deref.ensures.value in
          let still = search-kept pattern re r c.loop-before.regex.choice keeps of in
          let here-is = rw (keeps.nfa, end-is, text-is)
          at (c.in-Ok.ensures.text pattern re (hits text) still (rw keeps.nfa (all text))) in
          let left-is = rw text-is at (c.in-Ok.ensures.left pattern re (hits text) still (rw keeps.nfa (all text))) in
          let writes = rw c.deref-in-loop-before.ensures.value at c.in_ok-write_bytes.ensures in
          going-step r.nfa.groups hits c.args.action.now c.args.limit (g.R.Read.remaining c.args.input.now)
          (g.R.Read.remaining c.loop-before.input) (g.R.Read.remaining c.read_line.new.input)
          (g.W.Write.contents c.args.out.now) (g.W.Write.contents c.loop-before.out)
          (g.W.Write.contents c.write_bytes.new.out) c.loop-before.left c.in-Ok.shown.left bytes
          c.in-Ok.shown.text.items (c.in_ok-read_line.ensures.taken (search rules)) here-is left-is writes
          (c.loop-before.invariant.printed pattern re hits of all);
      keeps = search rules;
    }
