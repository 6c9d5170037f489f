-- The record at the start of what the reader holds is the next line.
use Rattle.std.proofs.Common.{◌≡◌, ◌∙◌, eqb-true, is_some, length, subst, sym, take}
use Rattle.std.specs.Io.BufRead.{FillKeeps}
use Rattle.program_text.specs.Lines.{line_feed}
use Rattle.program_text.proofs.LineLemmas.{none-shown, takes-shown}
use Rattle.log_extractor.proofs.GoingLemmas.{result-kept}
use Rattle.log_extractor.proofs.report.append_next.Goals as goal

pub returns-in-Err-clause-taken : goal.returns-in-Err-clause-taken
returns-in-Err-clause-taken g c =
    result-kept (g.R.Read.remaining c.args.input.now) _ _ c.fill_buf.follows.holds-at-none.0 _ is_some
    c.append_copy.result c.append_copy.ensures.taken

pub returns-then-is_empty-clause-taken : goal.returns-then-is_empty-clause-taken
returns-then-is_empty-clause-taken g c =
    let none : length c.in-Ok.held.now ≡ 0 = eqb-true _ 0 (sym c.is_empty.ensures ∙ c.if-is_empty.true) in
    none-shown line_feed (g.R.Read.remaining c.args.input.now) c.in-Ok.held.now none c.in-Ok.ensures.end

pub returns-clause-taken : goal.returns-clause-taken
returns-clause-taken g c =
    let shown = c.in-Ok.held.now in
    let rested = c.fill_buf.follows.lender-at-none in
    let filled = subst (FillKeeps _ (g.R.Read.remaining rested) (g.R.BufRead.consumable_len rested)) c.in-Ok.is
    c.fill_buf.follows.holds-at-none in (
      take c.in-Some.len shown,
      takes-shown line_feed (g.R.Read.remaining c.args.input.now) _ _ _ shown c.in-Some.len c.in-Some.ensures.within
          c.in-Some.ensures.whole c.in-Ok.ensures.front c.in-Ok.ensures.end filled.0 filled.1 c.consume.ensures.bytes,
      λ ps is. (c.in_ok-row.ensures.shown ps is, c.in_ok-row.ensures.row ps is),
    )

pub returns-in_default-clause-taken : goal.returns-in_default-clause-taken
returns-in_default-clause-taken g c =
    let rested = c.fill_buf.follows.lender-at-none in
    let filled = subst (FillKeeps _ (g.R.Read.remaining rested) (g.R.BufRead.consumable_len rested)) c.in-Ok.is
    c.fill_buf.follows.holds-at-none in
    result-kept (g.R.Read.remaining c.args.input.now) _ _ filled.0 _ is_some c.append_copy-in_default.result
    c.append_copy-in_default.ensures.taken
