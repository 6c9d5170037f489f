-- The only scan of the search finds its half match.
use Rattle.nfa_paths.proofs.Common.{◌≡◌, ◌∙◌, refl, sym, ap, Bool, true, false, Some, MatchBool, option_map, HalfFound, half_found_of, Search, search_of, MatchKind, Automaton, IsBoundary, is_anchored, is_utf8_empty}
use Rattle.nfa_lazy_dfa.specs.Configurations.{IsKeptHalf, IsRestartedHalf, IsStepsHalf, scan_half}
use Rattle.nfa_lazy_dfa.proofs.dfa.DFA.known_half.Goals as goal

module _ (nfa : Automaton) (kind : MatchKind) (earliest : Bool) (x : Search) (h : HalfFound) where
  -- what one scan finds is what the steps find, if it counts
  kept : scan_half nfa x kind earliest ≡ Some h
      → (is_utf8_empty nfa ≡ true → is_anchored x.anchored ≡ true)
      → (is_utf8_empty nfa ≡ true → IsBoundary x.haystack h.offset)
      → IsStepsHalf nfa kind earliest x (Some h)
  kept is one whole = go (is_utf8_empty nfa) refl
    where
      go : (b : Bool) → is_utf8_empty nfa ≡ b
          → MatchBool b
          (MatchBool (is_anchored x.anchored) (IsKeptHalf nfa kind earliest x (Some h))
          (IsRestartedHalf nfa kind earliest x (Some h)))
          (scan_half nfa x kind earliest ≡ Some h)
      go false e = is
      go true e = rw (one e) (is, whole e)

pub returns : goal.returns
returns c =
    let dfa = c.args.self.now in
    let x = search_of c.args.input.now in
    let h = half_found_of c.in_ok-half.half in
    let is : scan_half dfa.nfa x dfa.kind x.earliest ≡ Some h =
    sym c.in_ok-found.ensures ∙ ap (option_map half_found_of) c.in_ok-half.was in
    record {
      answer = (c.steps_find_the_half.ensures dfa.nfa x dfa.kind x.earliest (Some h)).1
          (kept dfa.nfa dfa.kind x.earliest x h is (c.is_one_scan.ensures c.if-not-is_one_scan.false)
          (c.is_whole.ensures c.if-not-is_whole.false));
    }
