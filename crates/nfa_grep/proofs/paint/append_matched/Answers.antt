-- One more match was printed.
use Rattle.nfa_grep.proofs.PaintedLemmas.{painted-more}
use Rattle.nfa_grep.proofs.paint.append_matched.Goals as goal

pub loop-found-preserved : goal.loop-found-preserved
loop-found-preserved c =
    painted-more c.args.by.colours c.args.by.line c.args.by.hit c.args.text.now c.args.matches.now
    c.loop-found.found-index c.found-item.result c.loop-found.from c.args.out.now.items c.loop-found.out.items
    c.loop-found-test.true c.found-item.is c.loop-found.invariant _ _ c.in_ok-from.ensures.appended
    c.in_ok-from.ensures.to
