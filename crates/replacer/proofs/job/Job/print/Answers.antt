-- What is printed by the NFA is what the pattern means. A text that was read as a whole is the one line, without an
-- end.
use Rattle.std.proofs.Common.{rules, ◌≡◌, [], false, true}
use Rattle.std.specs.Io.KnownBytes.{Appends}
use Rattle.replacer.specs.Printed.{shown}
use Rattle.replacer.proofs.PrintedLemmas.{at-read, prints}
use Rattle.replacer.proofs.job.Job.print.Goals as goal

pub returns-then-not-self-clause-printed : goal.returns-then-not-self-clause-printed
returns-then-not-self-clause-printed g c =
    let job = c.self.inside in
    let lines : job.request.whole ≡ false = search rules in
    let input = g.R.Read.remaining c.args.input.now in
    let old = g.W.Write.contents c.args.out.now in
    let new = g.W.Write.contents c.print_lines.new.out in
    rw (← c.self.view_is)
    (prints c.groups_are_those_of_texts.ensures.names job.request job.regex.choice c.self.invariant.0 job.action input
    old new c.self.invariant.1
    (λ pattern re hits of all. rw lines (c.in_ok-print_lines.ensures.printed pattern re hits of all)))

pub returns-clause-printed : goal.returns-clause-printed
returns-clause-printed g c =
    let job = c.self.inside in
    let whole : job.request.whole ≡ true = search rules in
    let input = g.R.Read.remaining c.args.input.now in
    let old = g.W.Write.contents c.args.out.now in
    let new = g.W.Write.contents c.write_bytes.new.out in
    let groups = job.regex.choice.nfa.groups in
    let limit = job.request.limit in
    let text = c.whole-line.result.text.now in
    rw (← c.self.view_is)
    (prints c.groups_are_those_of_texts.ensures.names job.request job.regex.choice c.self.invariant.0 job.action input
    old new c.self.invariant.1
    (λ pattern re hits of all.
    let made : c.in_ok-printed.printed.text.items ≡ shown groups job.action limit c.deref.result.now []
    (hits c.deref.result.now) =
    rw (c.whole-line.ensures.end, c.whole-line.ensures.text)
    at (c.in_ok-printed.ensures.text pattern re (hits text) of (all text)) in
    rw whole (at-read input c.deref.result.now c.in_ok-text.text.items
    (λ read. Appends old new (shown groups job.action limit read [] (hits read))) c.deref.ensures.value
    c.in_ok-text.ensures (rw (← made, ← c.deref-2.ensures.value) c.in_ok-write_bytes.ensures))))
