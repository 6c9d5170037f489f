-- One byte is found where it is first.
use Rattle.nfa_paths.proofs.Common.{◌≡◌, arith, length}
use Rattle.nfa_facts.proofs.ByteLemmas.{finds-one}
use Rattle.nfa_facts.proofs.literal.find.find_in.Goals as goal

pub returns-then-prefix-eq1 : goal.returns-then-prefix-eq1
returns-then-prefix-eq1 c =
    let one : length c.args.prefix.now ≡ 1 = omega arith in
    finds-one c.args.part.now c.args.prefix.now c.memchr.result one c.memchr.ensures
