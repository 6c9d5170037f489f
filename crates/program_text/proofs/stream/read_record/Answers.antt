-- What the read gave is a record if it is of a byte at least.
use Rattle.std.proofs.Common.{rules, ◌≡◌, ◌<◌, arith, length}
use Rattle.std.proofs.lemmas.Grind.{common_steps}
use Rattle.bstr.proofs.lemmas.RecordLemmas.{records-nil}
use Rattle.program_text.proofs.LineLemmas.{takes-record}
use Rattle.program_text.proofs.stream.read_record.Goals as goal

pub returns-in-Ok-clause-taken : goal.returns-in-Ok-clause-taken
returns-in-Ok-clause-taken g c = λ read.
    let some : 0 < length c.read_until.new.buf.items = search rules in
    takes-record c.args.end (g.R.Read.remaining c.args.input.now) (g.R.Read.remaining c.read_until.new.self)
    c.read_until.new.buf.items some (rw c.clear.ensures.items at c.in-Ok.ensures.bytes) c.in-Ok.ensures.rest

pub returns-in-Ok-clause-ended : goal.returns-in-Ok-clause-ended
returns-in-Ok-clause-ended g c = λ read.
    let none : c.in-Ok.len ≡ 0 = search rules in
    let ends = c.in-Ok.ensures.end none in
    grind (arith, common_steps, records-nil, ends)
