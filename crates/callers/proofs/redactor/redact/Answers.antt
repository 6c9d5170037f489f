-- The captures are those of the text.
use Rattle.std.proofs.Common.{rules, arith}
use Rattle.std.proofs.lemmas.Grind.{common_steps}
use Rattle.nfa_engines.specs.Search.{search_of}
use Rattle.nfa_meta.proofs.CaughtLemmas.{all-caught}
use Rattle.callers.proofs.redactor.redact.Goals as goal

pub returns-clause-redacted : goal.returns-clause-redacted
returns-clause-redacted c =
    let cs = c.in_ok-caught.caught.items in
    let lists = c.in_ok-caught.ensures.lists in
    let all = all-caught c.args.choice.now c.args.text.now (search_of c.new.result) c.new.ensures cs lists.rows
    lists.groups in
    record {
      caught = cs;
      are = all.rows;
      groups = all.groups;
      stars = first_of (search rules, grind (arith, common_steps));
    }
