-- The line that was read is the next one.
use Rattle.std.proofs.Common.{rules, subst}
use Rattle.program_text.specs.Lines.{HasNoRecord, TakesRecord}
use Rattle.grep_options.specs.declared.options.Options.{Options}
use Rattle.nfa_grep.proofs.search.take_copy.Goals as goal

pub returns-then-not-branch-clause-taken : goal.returns-then-not-branch-clause-taken
returns-then-not-branch-clause-taken g c = λ res meant. (
  subst (λ (o : Options). HasNoRecord o.end (g.R.Read.remaining c.args.input.now)) c.options.ensures
      (c.in_ok-read_record.ensures.ended (search rules)),
  c.in_ok-read_record.ensures.stays (search rules),
)

pub returns-clause-taken : goal.returns-clause-taken
returns-clause-taken g c = λ res meant.
    let line = c.read_record.new.line.items in (
      line,
      subst (λ (o : Options). TakesRecord o.end (g.R.Read.remaining c.args.input.now)
          (g.R.Read.remaining c.read_record.new.input) line) c.options.ensures
          (c.in_ok-read_record.ensures.taken (search rules)),
      rw c.deref.ensures.value at (c.in_ok-taken.ensures.taken res meant),
    )
