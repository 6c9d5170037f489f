-- What the grammar reads in the patterns of `validate.rt`.
use Rattle.nfa_compiler.specs.Written.{byte_syntax}
use Rattle.nfa_compiler.proofs.Denotes.{IsWhole, any, branch, digit, end, last, on_literals, one, run, text, times, whole, ◌and_then◌, ◌before◌, ◌or◌}
use Rattle.nfa_compiler.proofs.Octets.{octet, positive}
use Rattle.examples.specs.Shapes.{IsDate, IsIpv4, IsVersion}
use Rattle.examples.specs.declared.cookbook.validate.TheConstants.{DATE, IPV4, VERSION}

pub date : IsWhole byte_syntax DATE.now IsDate
unfolding on_literals
date = whole (run 4 0 digit before text before run 2 0 digit before text before end (run 2 0 digit))

pub version : IsWhole byte_syntax VERSION.now IsVersion
unfolding on_literals
version =
    let number = last text or branch (one positive and_then last (any digit)) in
    whole (number before text before number before text before end number)

pub ipv4 : IsWhole byte_syntax IPV4.now IsIpv4
unfolding on_literals
ipv4 = whole (times 3 (branch (octet and_then last text)) before end octet)
