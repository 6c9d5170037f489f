-- Records without bytes that are needed are lines that are not selected.
use Rattle.std.proofs.Common.{rules, subst}
use Rattle.program_text.specs.Lines.{PassesRecords}
use Rattle.grep_options.specs.declared.options.Options.{Options}
use Rattle.nfa_grep.proofs.NeededLemmas.{passes-lines, passes-nothing}
use Rattle.nfa_grep.proofs.search.pass_lines.Goals as goal

pub returns-then-is_empty-clause-passed : goal.returns-then-is_empty-clause-passed
returns-then-is_empty-clause-passed g c = λ res meant.
    passes-nothing c.args.grep.now.options res (g.R.Read.remaining c.args.input.now) c.args.at c.args.groups.now

pub returns-then-not-prints_only_selected-clause-passed : goal.returns-then-not-prints_only_selected-clause-passed
returns-then-not-prints_only_selected-clause-passed g c = λ res meant.
    passes-nothing c.args.grep.now.options res (g.R.Read.remaining c.args.input.now) c.args.at c.args.groups.now

pub returns-clause-passed : goal.returns-clause-passed
returns-clause-passed g c = λ res meant.
    let options = c.args.grep.now.options in
    let before = g.R.Read.remaining c.args.input.now in
    let left = g.R.Read.remaining c.pass_records.new.input in
    let passed = c.in_ok-passed.passed in
    let bytes = c.needed-needed.result.now in
    let passes : PassesRecords options.end bytes before left passed =
    subst (λ (o : Options). PassesRecords o.end bytes before left passed) c.options.ensures
    c.in_ok-passed.ensures.passed in
    passes-lines options res before left bytes passed c.args.at c.in-Some.next c.args.groups.now c.pass_all.new.self
    (c.needed-needed.ensures res meant) passes c.in-Some.ensures.number c.in-Some.ensures.offset (search rules)
    c.pass_all.ensures.printed
