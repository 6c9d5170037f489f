-- Lines are printed, or else counted.
use Rattle.nfa_paths.proofs.Common.{◌≡◌, false, sym, true, IfOk-weaker}
use Rattle.nfa_grep.specs.Printed.{shows}
use Rattle.nfa_grep.proofs.CountedLemmas.{counts-report, prints-report}
use Rattle.nfa_grep.proofs.search.print_lines.Goals as goal

pub returns-then-shows-clause-printed : goal.returns-then-shows-clause-printed
returns-then-shows-clause-printed g c =
    let request = c.args.request in
    let shown : shows request.report ≡ true = sym c.if-shows.ensures in
    IfOk-weaker c.search.result _ _ (λ count prints res meant.
    prints-report request.report c.args.grep.now.options res request.name.now request.context request.used request.limit
    (g.R.Read.remaining c.args.input.now) (g.R.Read.remaining c.search.new.input) (g.W.Write.contents c.args.out.now)
    (g.W.Write.contents c.search.new.out) count shown (prints res meant)) c.search.ensures.printed

pub returns-else-shows-clause-printed : goal.returns-else-shows-clause-printed
returns-else-shows-clause-printed g c =
    let request = c.args.request in
    let hidden : shows request.report ≡ false = sym c.if-shows.ensures in
    IfOk-weaker c.count_lines.result _ _ (λ count counts res meant.
    counts-report request.report c.args.grep.now.options res request.name.now request.context request.used request.limit
    (g.R.Read.remaining c.args.input.now) (g.R.Read.remaining c.count_lines.new.input)
    (g.W.Write.contents c.args.out.now) count hidden (counts res meant))
    (rw c.limit.ensures at c.count_lines.ensures.counted)
