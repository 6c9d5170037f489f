-- the fields of an NFA as an automaton
use Rattle.std.specs.Prelude.{map}
use Rattle.thompson_nfa.specs.Automaton.{Automaton, node_of}
use Rattle.thompson_nfa.specs.declared.nfa.NFA.TheInside.{Inside}

-- the NFA as a value
abbrev pub automaton_of : Inside → Automaton
automaton_of a = record {
  states = map node_of a.states.items;
  anchored = a.anchored;
  unanchored = a.unanchored;
  patterns = a.patterns.items;
  groups = a.groups;
  has_empty = a.has_empty;
  utf8 = a.utf8;
}
