-- The scan for the first path, position by position.
use Rattle.nfa_paths.proofs.Common.{◌≡◌, ℕ, ◌+◌, ◌-◌, ◌≤◌, inl, inr, Bool, true, false, List, [], ◌∷◌, ◌++◌, length, map, refl, ap, ◌∙◌, arith, None, Some, is_some, map-append, Search, Automaton, Pair, In, Hit, rests, node_at, is_match, LeftmostFirst}
use Rattle.nfa_paths.proofs.MemberLemmas.{In-append_left}
use Rattle.nfa_paths.proofs.PathToLemmas.{is_false}
use Rattle.nfa_paths.proofs.SearchingLemmas.{Searching-cut}
use Rattle.nfa_lazy_dfa.specs.Closures.{before_first_match}
use Rattle.nfa_lazy_dfa.specs.Configurations.{Configuration, closure_at, next_configuration, advance, scanned}
use Rattle.nfa_lazy_dfa.proofs.FollowLemmas.{pairs, place, bare, Finding}
use Rattle.nfa_lazy_dfa.proofs.NextLemmas.{Finding-next}
use Rattle.nfa_lazy_dfa.proofs.MatchLemmas.{half_of, FirstIn, NoneIn, first-is}
use Rattle.nfa_lazy_dfa.proofs.PositionLemmas.{scanned-each, waiting, waiting-none, waiting-later, Fresh, closed, closed-rests, follow-here, Finding-begin}
use Rattle.nfa_scan_core.specs.Marks.{SeenAt}

module _ (nfa : Automaton) (x : Search) where
  -- before a position, with what was found so far
  pub record FirstScan (at : ℕ) (c : Configuration) : Type 0 where
    pub spent : ℕ
    pub so_far : Hit
    pub found_is : half_of nfa so_far ≡ c.found
    pub finding : Finding nfa x (is_match nfa) (Fresh nfa x at) spent [] so_far
        (pairs at c.states ++ waiting nfa x at c.starts)

  module _ (at : ℕ) (here : List ℕ) (rest : (s : ℕ) → In s here → rests (node_at nfa s) ≡ true) (c : Configuration)
      (seen : List Bool) (spent : ℕ) (so_far : Hit) (found_is : half_of nfa so_far ≡ c.found)
      (finding : Finding nfa x (is_match nfa) (SeenAt at seen) spent (map (place at) here) so_far
      (waiting nfa x (at + 1) (c.starts - 1))) where
    past : (v : Pair) → SeenAt at seen v → v.1 ≤ at
    past v h = let k : v.1 ≡ at = h.here in omega arith

    -- no match at the position
    first-miss : NoneIn nfa here → FirstScan (at + 1) (next_configuration nfa x LeftmostFirst false at here c)
    first-miss none = record {
      spent = spent;
      so_far = so_far;
      found_is = rw none.first found_is;
      finding = rw (none.first, none.kept) (Finding-next nfa x at (is_match nfa) here rest
          (λ s i. is_false (is_match nfa (s, at)) (none.plain s i)) (waiting nfa x (at + 1) (c.starts - 1)) finding past
          (λ k i. let l : at + 1 ≤ k.1 = waiting-later nfa x (at + 1) (c.starts - 1) k i in omega arith)
          (length nfa.states));
    }

    -- a match at the position: what is after it is dropped
    first-hit : FirstIn nfa here → FirstScan (at + 1) (next_configuration nfa x LeftmostFirst false at here c)
    first-hit some =
        let before = before_first_match nfa here in
        let split : map (place at) here ≡ map (place at) before ++ place at some.state ∷ map (place at) some.after =
        ap (map (place at)) some.split ∙ map-append (place at) before (some.state ∷ some.after) in
        let matches : is_match nfa (some.state, at) ≡ true = ap is_some some.is in
        let cut = Searching-cut (bare nfa x) (is_match nfa) (map (place at) before) (place at some.state)
        (map (place at) some.after) (rw split at finding) matches refl in
        record {
          spent = spent;
          so_far = Some (place at some.state);
          found_is = rw (some.first, some.is) refl;
          finding = rw (some.first, waiting-none nfa x (at + 1)) (Finding-next nfa x at (is_match nfa) before
              (λ s i. rest s (rw some.split (In-append_left s before (some.state ∷ some.after) i)))
              (λ s i. is_false (is_match nfa (s, at)) (some.plain s i)) [] cut past (λ k i. absurd i)
              (length nfa.states));
        }

    first-next : FirstScan (at + 1) (next_configuration nfa x LeftmostFirst false at here c)
    first-next = elim (first-is nfa here) [ inl none ↦ first-miss none | inr some ↦ first-hit some ]

  -- the next position
  pub FirstScan-advance : (at : ℕ) (c : Configuration) → FirstScan at c
      → FirstScan (at + 1) (advance nfa x LeftmostFirst false at c)
  FirstScan-advance at c s =
      first-next at (closure_at nfa x at c) (closed-rests nfa x at c) c (closed nfa x at c).after
      (s.spent + (closed nfa x at c).turns) s.so_far s.found_is
      (follow-here nfa x at c (is_match nfa) (λ v t. t) s.spent s.so_far s.finding)

  -- after the first n positions
  pub FirstScan-scanned : (n : ℕ) → FirstScan (x.start + n) (scanned nfa x LeftmostFirst false n)
  FirstScan-scanned = scanned-each nfa x LeftmostFirst false FirstScan
      (record { spent = 0; so_far = None; found_is = refl; finding = Finding-begin nfa x (is_match nfa) })
      FirstScan-advance
