-- The record at the start of what the reader holds is the next line.
use Rattle.std.proofs.Common.{◌≡◌, ◌∙◌, eqb-true, length, subst, sym, take}
use Rattle.std.specs.Io.BufRead.{FillKeeps}
use Rattle.program_text.specs.Lines.{IsRecord}
use Rattle.program_text.proofs.LineLemmas.{none-shown, takes-shown}
use Rattle.nfa_grep.proofs.search.take_next.Goals as goal

pub returns-then-is_empty-clause-taken : goal.returns-then-is_empty-clause-taken
returns-then-is_empty-clause-taken g c = λ res meant.
    let rested = c.fill_buf.follows.lender-at-none in
    let filled = subst (FillKeeps _ (g.R.Read.remaining rested) (g.R.BufRead.consumable_len rested)) c.in-Ok.is
    c.fill_buf.follows.holds-at-none in
    let none : length c.in-Ok.held.now ≡ 0 = eqb-true _ 0 (sym c.is_empty.ensures ∙ c.if-is_empty.true) in (
      none-shown c.args.grep.now.options.end (g.R.Read.remaining c.args.input.now) c.in-Ok.held.now none
          c.in-Ok.ensures.end,
      filled.0,
    )

pub returns-clause-taken : goal.returns-clause-taken
returns-clause-taken g c = λ res meant.
    let end = c.args.grep.now.options.end in
    let shown = c.in-Ok.held.now in
    let line = take c.in-Some.len shown in
    let rested = c.fill_buf.follows.lender-at-none in
    let filled = subst (FillKeeps _ (g.R.Read.remaining rested) (g.R.BufRead.consumable_len rested)) c.in-Ok.is
    c.fill_buf.follows.holds-at-none in
    let whole : IsRecord end line = rw c.options.ensures at c.in-Some.ensures.whole in (
      line,
      takes-shown end (g.R.Read.remaining c.args.input.now) _ _ _ shown c.in-Some.len c.in-Some.ensures.within whole
          c.in-Ok.ensures.front c.in-Ok.ensures.end filled.0 filled.1 c.consume.ensures.bytes,
      c.in_ok-taken.ensures.taken res meant,
    )
