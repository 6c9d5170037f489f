-- A byte like the last one is read alike.
use Rattle.std.proofs.Common.{rules, subst, Some}
use Rattle.nfa_lazy_dfa.specs.Assertions.{IsRead}
use Rattle.nfa_lazy_dfa.proofs.follow.before.Goals as goal

pub returns-in_ok-byte : goal.returns-in_ok-byte
returns-in_ok-byte c = λ after after_read.
    let dfa = c.args.dfa.now in
    let byte = c.in_ok-byte.field-0 in
    let read : IsRead dfa.nfa (Some byte) = subst (IsRead dfa.nfa) c.in_ok-byte.was c.requires in
    rw c.in_ok-byte.was (dfa.likes_are.same byte after (search rules) read after_read)
