-- No match starts before the position that the literals give.
use Rattle.nfa_paths.proofs.Common.{refl, search_of}
use Rattle.nfa_engines.specs.StartLaws.{IsFirstStart}
use Rattle.nfa_meta.proofs.regex.prefix.rest_from.Goals as goal

pub returns-in-Some-clause-rest : goal.returns-in-Some-clause-rest
returns-in-Some-clause-rest c =
    let x = search_of c.args.input in
    let first : IsFirstStart c.args.nfa.now x c.in-Some.at = rw c.in-Some.is at c.first_start.ensures.first in
    rw (c.range.ensures, c.end.ensures.value) (record { first = first; is = refl })
