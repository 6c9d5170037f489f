-- The line that was read is counted if it is selected.
use Rattle.std.proofs.Common.{rules, ◌≡◌, ◌∙◌, ℕ, Bool, IfSome, ap, cond, inl, inr, subst, sym}
use Rattle.nfa_paths.proofs.Common.{cases_Bool}
use Rattle.program_text.specs.Lines.{TakesRecord}
use Rattle.grep_options.specs.declared.options.Options.{Options}
use Rattle.nfa_grep.specs.Counted.{HasCounted}
use Rattle.nfa_grep.specs.Printed.{is_selected}
use Rattle.nfa_grep.proofs.CountedLemmas.{has-line}
use Rattle.nfa_grep.proofs.count.count_copy.Goals as goal

pub returns-clause-counted : goal.returns-clause-counted
returns-clause-counted g c = λ res meant.
    let options = c.args.grep.now.options in
    let line = c.read_record.new.line.items in
    let before = g.R.Read.remaining c.args.input.now in
    let left = g.R.Read.remaining c.read_record.new.input in
    let takes : TakesRecord options.end before left line =
    subst (λ (o : Options). TakesRecord o.end before left line) c.options.ensures
    (c.in_ok-read_record.ensures.taken (search rules)) in
    let selected-is : c.selects.result ≡ is_selected options res line =
    rw c.deref.ensures.value at (c.selects.ensures.selected res meant) in
    let number-is : c.from.result ≡ cond c.selects.result 1 0 = elim (cases_Bool c.selects.result) [
      | inl met ↦ rw met (rw met at c.from.ensures)
      | inr unmet ↦ rw unmet (rw unmet at c.from.ensures)
    ] in
    subst (λ (n : ℕ). IfSome before (λ text. HasCounted options res c.args.limit text left n))
    (sym (number-is ∙ ap (λ (b : Bool). cond b 1 0) selected-is))
    (has-line options res c.args.limit before left line c.requires takes)
