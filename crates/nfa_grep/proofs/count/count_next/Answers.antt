-- What the reader shows has no line at its end; else the lines that were counted there were taken.
use Rattle.std.proofs.Common.{◌≡◌, ◌∙◌, eqb-true, length, subst, sym}
use Rattle.std.specs.Io.BufRead.{FillKeeps}
use Rattle.program_text.proofs.LineLemmas.{none-shown}
use Rattle.nfa_grep.proofs.count.count_next.Goals as goal

pub returns-then-is_empty-2-clause-counted : goal.returns-then-is_empty-2-clause-counted
returns-then-is_empty-2-clause-counted g c = λ res meant.
    let rested = c.fill_buf.follows.lender-at-none in
    let filled = subst (FillKeeps _ (g.R.Read.remaining rested) (g.R.BufRead.consumable_len rested)) c.in-Ok.is
    c.fill_buf.follows.holds-at-none in
    let none : length c.in-Ok.held.now ≡ 0 = eqb-true _ 0 (sym c.is_empty-2.ensures ∙ c.if-is_empty-2.true) in (
      none-shown c.args.grep.now.options.end (g.R.Read.remaining c.args.input.now) c.in-Ok.held.now none
          c.in-Ok.ensures.end,
      filled.0,
    )
