-- What was made is the NFA with fewer captures, in which there is no flaw.
use Rattle.nfa_paths.proofs.Common.{no-flaw, ◌≡◌, ◌∙◌, ℕ, List, [], ◌∷◌, Option, ap, map, refl, subst, sym, slot_count, Automaton, IsAutomaton, node_of, State}
use Rattle.nfa_facts.specs.Kept.{kept_groups, kept_node, with_captures}
use Rattle.nfa_facts.proofs.KeptLemmas.{captures-valid}
use Rattle.nfa_facts.proofs.captures.keep.keep_captures.Goals as goal

-- the parts of an NFA
parts : (a b : Automaton) → a.states ≡ b.states → a.anchored ≡ b.anchored → a.unanchored ≡ b.unanchored
    → a.patterns ≡ b.patterns → a.groups ≡ b.groups → a.has_empty ≡ b.has_empty → a.utf8 ≡ b.utf8 → a ≡ b
parts a b states anchored unanchored patterns groups has_empty utf8 =
    λ i. record {
      states = states i;
      anchored = anchored i;
      unanchored = unanchored i;
      patterns = patterns i;
      groups = groups i;
      has_empty = has_empty i;
      utf8 = utf8 i;
    }

nodes-kept : (count : ℕ) (states : List State)
    → map (λ s. kept_node count (node_of s)) states ≡ map (kept_node count) (map node_of states)
nodes-kept count [] = refl
nodes-kept count (s ∷ states) = ap (λ l. kept_node count (node_of s) ∷ l) (nodes-kept count states)

states-kept : (groups : List (List (Option (List ℕ)))) (nfa : Automaton) (count : ℕ) (kept states : List State)
    → count ≡ slot_count groups → map node_of kept ≡ map (λ s. kept_node count (node_of s)) states
    → map node_of states ≡ nfa.states → map node_of kept ≡ map (kept_node (slot_count groups)) nfa.states
states-kept groups nfa count kept states is made are =
    made ∙ nodes-kept count states ∙ ap (map (kept_node count)) are
    ∙ ap (λ (n : ℕ). map (kept_node n) nfa.states) is

pub returns-clause-kept : goal.returns-clause-kept
unfolding with_captures
returns-clause-kept c =
    let nfa = c.args.nfa.now in
    let groups = rw c.group_info.ensures.value at c.in_ok-groups.ensures.groups in
    c.in-Ok.ensures.1
    ∙ parts _ (with_captures c.args.which nfa)
    (states-kept (kept_groups c.args.which nfa.groups) nfa c.slot_len.result c.in_ok-states.states.items
    c.states.result.now (c.slot_len.ensures.value ∙ ap slot_count groups) c.in_ok-states.ensures
    c.states.ensures.nodes)
    c.start_anchored-anchored.ensures.value c.start_unanchored-unanchored.ensures.value
    c.in_ok-starts.ensures.starts groups c.has_empty-has_empty.ensures c.is_utf8-utf8.ensures

pub unreachable-requires : goal.unreachable-requires
unfolding with_captures
unreachable-requires c =
    let nfa = c.args.nfa.now in
    let groups = rw c.group_info.ensures.value at c.in_ok-groups.ensures.groups in
    let small = with_captures c.args.which nfa in
    let made : Automaton = record small {
      states = map node_of c.in_ok-states.states.items;
      anchored = c.start_anchored-anchored.result;
      unanchored = c.start_unanchored-unanchored.result;
      patterns = c.in_ok-starts.starts.items;
      groups = c.in_ok-groups.groups;
    } in
    let is : made ≡ small = parts made small
    (states-kept (kept_groups c.args.which nfa.groups) nfa c.slot_len.result c.in_ok-states.states.items
    c.states.result.now (c.slot_len.ensures.value ∙ ap slot_count groups) c.in_ok-states.ensures
    c.states.ensures.nodes)
    c.start_anchored-anchored.ensures.value c.start_unanchored-unanchored.ensures.value
    c.in_ok-starts.ensures.starts groups refl refl in
    no-flaw made c.in-Err.ensures.0
    (subst IsAutomaton (sym is) (captures-valid c.args.which nfa c.states.ensures.valid)) c.in-Err.ensures.1
