-- An NFA with another line terminator is an NFA.
use Rattle.std.proofs.Common.{ℕ, List, length, map, sym, subst, All}
use Rattle.std.proofs.lemmas.List.{length-map}
use Rattle.std.proofs.lemmas.List.Elements.{All-map, All-weaker}
use Rattle.regex_search_core.specs.Groups.{slot_count}
use Rattle.thompson_nfa.specs.Automaton.{Automaton, IsAutomaton, LeadsBelow, Node, PatternBelow, SlotBelow, node_with_terminator, nfa_with_terminator}
use Rattle.thompson_nfa.specs.Automaton.Node.{Look}

module _ (terminator : ℕ) where
  leads-below : (n : ℕ) (node : Node) → LeadsBelow n node → LeadsBelow n (node_with_terminator terminator node)
  leads-below n (Look look next) below = below
  leads-below n _ below = below

  slot-below : (n : ℕ) (node : Node) → SlotBelow n node → SlotBelow n (node_with_terminator terminator node)
  slot-below n (Look look next) below = below
  slot-below n _ below = below

  pattern-below : (n : ℕ) (node : Node) → PatternBelow n node
      → PatternBelow n (node_with_terminator terminator node)
  pattern-below n (Look look next) below = below
  pattern-below n _ below = below

  -- what is true of each state stays true of each
  each-state : (P : Node → Type 0) (nodes : List Node)
      → ((node : Node) → P node → P (node_with_terminator terminator node))
      → All P nodes → All P (map (node_with_terminator terminator) nodes)
  each-state P nodes stays all =
      All-map P (node_with_terminator terminator) nodes
      (All-weaker P (λ node. P (node_with_terminator terminator node)) stays nodes all)

  pub valid-with_terminator : (a : Automaton) → IsAutomaton a → IsAutomaton (nfa_with_terminator terminator a)
  valid-with_terminator a is = record {
    filled = rw length-map is.filled;
    numbered = record {
      anchored_in = rw length-map is.numbered.anchored_in;
      unanchored_in = rw length-map is.numbered.unanchored_in;
      patterns_in = rw length-map is.numbered.patterns_in;
      targets_in =
          subst (λ n. All (LeadsBelow n) (map (node_with_terminator terminator) a.states))
          (sym (length-map a.states (node_with_terminator terminator)))
          (each-state (LeadsBelow (length a.states)) a.states (leads-below (length a.states)) is.numbered.targets_in);
    };
    slots = each-state (SlotBelow (slot_count a.groups)) a.states (slot-below (slot_count a.groups)) is.slots;
    patterns =
        each-state (PatternBelow (length a.patterns)) a.states (pattern-below (length a.patterns)) is.patterns;
    groups = is.groups;
  }
