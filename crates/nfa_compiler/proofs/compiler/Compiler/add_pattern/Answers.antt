-- the pattern's own NFA is at the site
use Rattle.std.proofs.Common.{arith, refl}
use Rattle.nfa_compiler.proofs.AddLemmas.{nodes-length, pattern-in-range}
use Rattle.nfa_compiler.proofs.compiler.Compiler.add_pattern.Goals as goal

pub returns-clause-made : goal.returns-clause-made
returns-clause-made c = record {
  nfa = c.in_ok-nfa.nfa;
  site = _;
  implements = c.in_ok-nfa.ensures.implements;
  block = c.in_ok-start.ensures.block;
  pattern_is = c.in_ok-pattern_number.ensures.number;
  slots_are = refl;
  start_is = c.in_ok-start.ensures.start;
}

pub returns-clause-range : goal.returns-clause-range
returns-clause-range c =
    pattern-in-range _ _ c.in_ok-nfa.nfa _ c.args.slots c.args.index c.args.pattern.now c.in_ok-start.ensures.block
    c.in_ok-start.ensures.added
    (omega (arith, nodes-length c.args.states.now))
    (omega (arith, nodes-length c.add.new.states, c.in_ok-start.ensures.count))
    c.in_ok-pattern_number.ensures.number refl c.in_ok-nfa.ensures.slots c.requires.slots c.requires.range

pub returns-clause-fits : goal.returns-clause-fits
returns-clause-fits c = record {
  nfa = c.in_ok-nfa.nfa;
  implements = c.in_ok-nfa.ensures.implements;
  small = c.in_ok-nfa.ensures.small;
}
