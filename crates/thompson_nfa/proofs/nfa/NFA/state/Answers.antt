-- The number of a state that another leads to is in range.
use Rattle.std.proofs.Common.{◌<◌, length, map, arith}
use Rattle.std.proofs.lemmas.List.{length-map}
use Rattle.regex_search_core.specs.Groups.{slot_count}
use Rattle.thompson_nfa.specs.Automaton.{LeadsBelow, SlotBelow, PatternBelow, node_of}
use Rattle.thompson_nfa.proofs.FlawLemmas.{passes-at}
use Rattle.thompson_nfa.proofs.nfa.NFA.state.Goals as goal

-- the number is that of a state
within : (c : goal.After-index) → c.as_usize.result < length c.self.inside.states.items
within c =
    let known : c.args.id < length (map node_of c.self.inside.states.items) = rw (← c.self.view_is) at c.requires in
    omega (arith, simp length-map at known)

pub returns-clause-leads : goal.returns-clause-leads
returns-clause-leads c =
    rw (← c.self.view_is)
    (passes-at (LeadsBelow (length (map node_of c.self.inside.states.items))) node_of
    c.self.inside.states.items _ _ (within c)
    c.index.ensures c.self.invariant.numbered.targets_in)

pub returns-clause-slot : goal.returns-clause-slot
returns-clause-slot c =
    rw (← c.self.view_is)
    (passes-at (SlotBelow (slot_count c.self.inside.groups)) node_of c.self.inside.states.items _ _ (within c)
    c.index.ensures c.self.invariant.slots)

pub returns-clause-pattern : goal.returns-clause-pattern
returns-clause-pattern c =
    rw (← c.self.view_is)
    (passes-at (PatternBelow (length c.self.inside.patterns.items)) node_of c.self.inside.states.items _ _ (within c)
    c.index.ensures c.self.invariant.patterns)
