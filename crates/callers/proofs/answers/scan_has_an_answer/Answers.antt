-- The law, of the scan.
use Rattle.std.proofs.Common.{false}
use Rattle.nfa_engines.specs.Engines.{kind_of}
use Rattle.nfa_engines.specs.Search.{search_of}
use Rattle.callers.proofs.answers.scan_has_an_answer.Goals as goal

pub returns : goal.returns
returns c =
    c.every_scan_has_an_answer.ensures c.args.vm.now.nfa (search_of c.args.input.now) (kind_of c.args.vm.now) false
