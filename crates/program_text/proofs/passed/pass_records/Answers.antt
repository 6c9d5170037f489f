-- The records that were passed were consumed.
use Rattle.std.proofs.Common.{subst}
use Rattle.std.specs.Io.BufRead.{FillKeeps}
use Rattle.std.proofs.BufReadLemmas.{Consumes_shown}
use Rattle.program_text.proofs.LineLemmas.{passes}
use Rattle.program_text.proofs.passed.pass_records.Goals as goal

pub returns-clause-passed : goal.returns-clause-passed
returns-clause-passed g c =
    let shown = c.in-Ok.held.now in
    let passed = c.first_without-passed.result in
    let within = c.first_without-passed.ensures.within in
    let rested = c.fill_buf.follows.lender-at-none in
    let filled = subst (FillKeeps _ (g.R.Read.remaining rested) (g.R.BufRead.consumable_len rested)) c.in-Ok.is
    c.fill_buf.follows.holds-at-none in
    let moved = Consumes_shown (g.R.Read.remaining c.args.input.now) _ _ _ shown passed.len within c.in-Ok.ensures.front
    c.in-Ok.ensures.end filled.0 filled.1 c.consume.ensures.bytes in
    passes c.args.end c.args.bytes.now (g.R.Read.remaining c.args.input.now) _ shown passed within
    c.first_without-passed.ensures.whole moved.0
