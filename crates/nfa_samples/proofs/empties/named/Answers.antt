-- A name that is not known is none of the table.
use Rattle.std.proofs.Common.{lit<}
use Rattle.nfa_samples.specs.Names.{empty_names}
use Rattle.nfa_samples.proofs.StateTableLemmas.{found-among, error-among}
use Rattle.nfa_samples.proofs.empties.named.Goals as goal

pub returns-in-empty_bytes-clause-none : goal.returns-in-empty_bytes-clause-none
returns-in-empty_bytes-clause-none c =
    found-among c.some-in-empty_bytes.result 3 c.args.name.now empty_names (lit< tt) c.in-empty_bytes.is
    c.some-in-empty_bytes.ensures.made

pub returns-in-empty_bytes-clause-known : goal.returns-in-empty_bytes-clause-known
returns-in-empty_bytes-clause-known c =
    error-among c.some-in-empty_bytes.result 3 c.args.name.now empty_names (lit< tt) c.in-empty_bytes.is

pub returns-in-a_star_bytes-clause-none : goal.returns-in-a_star_bytes-clause-none
returns-in-a_star_bytes-clause-none c =
    found-among c.some-in-a_star_bytes.result 6 c.args.name.now empty_names (lit< tt) c.in-a_star_bytes.is
    c.some-in-a_star_bytes.ensures.made

pub returns-in-a_star_bytes-clause-known : goal.returns-in-a_star_bytes-clause-known
returns-in-a_star_bytes-clause-known c =
    error-among c.some-in-a_star_bytes.result 6 c.args.name.now empty_names (lit< tt) c.in-a_star_bytes.is
