-- The buffers hold nothing before and after.
use Rattle.std.proofs.Common.{◌≡◌, ap, subst}
use Rattle.std.specs.Io.Buffered.{reader_buffer, reader_capacity, reader_inner, reader_remaining, writer_buffer, writer_contents, writer_inner}
use Rattle.std.specs.Io.KnownBytes.{Keeps}
use Rattle.replacer.specs.Printed.{Prints}
use Rattle.replacer.proofs.GoingLemmas.{all-left, nothing-held, prints-through}
use Rattle.replacer.proofs.filled.write_printed.Goals as goal

pub returns-in-Ok-into_inner-clause-printed : goal.returns-in-Ok-into_inner-clause-printed
returns-in-Ok-into_inner-clause-printed g c =
    let remaining = g.R.Read.remaining in
    let contents = g.W.Write.contents in
    let input = c.in-Ok.input in
    let old = writer_contents contents c.in-Ok-new.out in
    let new = writer_contents contents c.print.new.out in
    let before : Keeps (contents c.args.file) old =
    subst (λ file. Keeps (contents file) old) c.in-Ok-new.ensures.inner
    (nothing-held (contents (writer_inner c.in-Ok-new.out)) (writer_buffer c.in-Ok-new.out)
    c.in-Ok-new.ensures.empty) in
    let left : reader_remaining remaining input ≡ remaining c.args.input =
    all-left (reader_capacity input) (reader_buffer input) (remaining (reader_inner input)) (remaining c.args.input)
    c.in-Ok.ensures.capacity c.in-Ok.ensures.empty (ap remaining c.in-Ok.ensures.inner) in
    prints-through (contents c.args.file) old new (contents c.in-Ok-into_inner.file) before
    c.in-Ok-into_inner.ensures.ok c.args.job.now (remaining c.args.input)
    (subst (λ known. Prints c.args.job.now known old new) left c.in_ok-print.ensures.printed)
