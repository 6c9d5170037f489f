-- The trees have the names that are read, and the groups of the NFA are theirs. A hit is one of the patterns.
use Rattle.nfa_paths.proofs.Common.{AllZip-long, ◌∙◌, ap, arith, length, length-map}
use Rattle.nfa_compiler.specs.Common.{IsTreeOf, explicit_names}
use Rattle.nfa_compiler.proofs.CallLemmas.{group-written, name-written, groups-named}
use Rattle.nfa_compiler.proofs.EachLemmas.{boundary-pattern, hit-pattern, str-pattern}
use Rattle.nfa_compiler.proofs.laws.groups_are_those_of_texts.Goals as goal

pub returns-clause-names : goal.returns-clause-names
returns-clause-names c = λ syntax texts names nfa made named.
    made.groups ∙ groups-named syntax texts made.trees names made.read named

pub returns-clause-count : goal.returns-clause-count
returns-clause-count c = λ syntax texts nfa made.
    ap (λ gs. length gs) made.groups ∙ length-map made.trees explicit_names
    ∙ AllZip-long (IsTreeOf syntax) texts made.trees made.read

pub returns-clause-spans : goal.returns-clause-spans
returns-clause-spans c = λ res nfa x h group many found low high.
    group-written nfa h group (omega (arith, many, hit-pattern res _ x h found)) low high

pub returns-clause-named : goal.returns-clause-named
returns-clause-named c = λ res nfa x h name group many found named.
    name-written nfa h name group (omega (arith, many, hit-pattern res _ x h found)) named

pub returns-clause-boundary_spans : goal.returns-clause-boundary_spans
returns-clause-boundary_spans c = λ res nfa x h group many found low high.
    group-written nfa h group (omega (arith, many, boundary-pattern res _ x h found)) low high

pub returns-clause-boundary_named : goal.returns-clause-boundary_named
returns-clause-boundary_named c = λ res nfa x h name group many found named.
    name-written nfa h name group (omega (arith, many, boundary-pattern res _ x h found)) named

pub returns-clause-str_spans : goal.returns-clause-str_spans
returns-clause-str_spans c = λ res nfa x h group many found low high.
    group-written nfa h group (omega (arith, many, str-pattern res _ x h found)) low high

pub returns-clause-str_named : goal.returns-clause-str_named
returns-clause-str_named c = λ res nfa x h name group many found named.
    name-written nfa h name group (omega (arith, many, str-pattern res _ x h found)) named
