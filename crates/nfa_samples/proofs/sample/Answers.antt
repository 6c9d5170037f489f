-- What the three tables say about a name, one after the other, is what the list of all names says.
use Rattle.std.proofs.Common.{◌++◌, rules}
use Rattle.nfa_samples.specs.Names.{word_names, empty_names, table_names}
use Rattle.nfa_samples.proofs.StateTableLemmas.{first-known, rest-known, rest-none}
use Rattle.nfa_samples.proofs.sample.Goals as goal

pub returns-in_err-nfa-clause-known : goal.returns-in_err-nfa-clause-known
returns-in_err-nfa-clause-known c =
    first-known c.from_residual.result c.args.name.now word_names (empty_names ++ table_names)
    c.in_err-nfa.ensures.known

pub returns-in_err-nfa-2-clause-known : goal.returns-in_err-nfa-2-clause-known
returns-in_err-nfa-2-clause-known c =
    let r = c.from_residual-in_err-nfa-2.result in
    rest-known r c.args.name.now word_names (empty_names ++ table_names)
    (first-known r c.args.name.now empty_names table_names c.in_err-nfa-2.ensures.known)

pub returns-clause-none : goal.returns-clause-none
returns-clause-none c =
    rest-none c.named-3.result c.args.name.now word_names (empty_names ++ table_names)
    (c.in_ok-nfa.ensures.none.0 (search rules))
    (rest-none c.named-3.result c.args.name.now empty_names table_names
    (c.in_ok-nfa-2.ensures.none.0 (search rules)) c.named-3.ensures.none)

pub returns-clause-known : goal.returns-clause-known
returns-clause-known c =
    rest-known c.named-3.result c.args.name.now word_names (empty_names ++ table_names)
    (rest-known c.named-3.result c.args.name.now empty_names table_names c.named-3.ensures.known)
