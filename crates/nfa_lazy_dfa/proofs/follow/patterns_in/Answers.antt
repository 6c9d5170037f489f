-- The pattern of a Match is added.
use Rattle.nfa_paths.proofs.Common.{◌≡◌, ◌≤◌, ◌+◌, ◌∷◌, ◌++◌, ℕ, List, [], ap, append_assoc, arith, drop, length, length-append, map, sym, ◌∙◌, None, Some, option_map, option_to_list, drop_more, map-append, number_of, PatternID, node_of, pattern_of}
use Rattle.nfa_paths.proofs.StartLemmas.{node_at-get}
use Rattle.nfa_lazy_dfa.specs.Closures.{state_pattern}
use Rattle.nfa_lazy_dfa.specs.Stances.{patterns_in}
use Rattle.nfa_lazy_dfa.proofs.follow.patterns_in.Goals as goal
use Rattle.nfa_lazy_dfa.proofs.follow.patterns_in.Goals.{in-Some+in_ok-push, in_default}

pub loop-sid-preserved : goal.loop-sid-preserved
loop-sid-preserved c =
    let nfa = c.args.nfa.now in
    let xs = c.args.states.now in
    let i = c.loop-sid.sid-index in
    let s = c.sid-item.result in
    let old = c.loop-sid.patterns.items in
    let more = patterns_in nfa (drop (i + 1) xs) in
    let inside = c.loop-sid-test.true in
    let rest : drop i xs ≡ s ∷ drop (i + 1) xs =
    drop_more xs i s inside ∙ ap (λ (t : ℕ). t ∷ drop (i + 1) xs) (sym c.sid-item.is) in
    let pattern : option_map number_of c.pattern_of.result ≡ state_pattern nfa s =
    c.pattern_of.ensures
    ∙ sym (ap pattern_of (node_at-get nfa s (node_of c.state.result.now) c.state.ensures.node)) in
    let before : map number_of old ++ (option_to_list (state_pattern nfa s) ++ more) ≡ patterns_in nfa xs =
    ap (λ (ys : List ℕ). map number_of old ++ patterns_in nfa ys) (sym rest) ∙ c.loop-sid.invariant.patterns in
    let counted : length old ≤ i = c.loop-sid.invariant.short in
    elim c.match-pattern_of.branch [
      | in-Some+in_ok-push w ↦
          let p : PatternID = w.in-Some.pattern in
          let is : state_pattern nfa s ≡ Some (number_of p) = sym pattern ∙ ap (option_map number_of) w.in-Some.is in
          let items : w.push.new.self.items ≡ old ++ p ∷ [] = w.in_ok-push.ensures.items in
          rw (w.patterns-is, items) (record {
            patterns = rw (map-append number_of old (p ∷ []), append_assoc (map number_of old) (number_of p ∷ []) more)
                (rw is at before);
            short = omega (arith, length-append old (p ∷ []));
          })
      | in_default w ↦
          let none : state_pattern nfa s ≡ None = sym pattern ∙ ap (option_map number_of) w.in_default.is in
          rw w.patterns-is (record {
            patterns = rw none at before;
            short = omega arith;
          })
    ]
