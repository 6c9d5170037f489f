-- A set of patterns is the result under LeftmostFirst if it holds exactly the patterns of the first paths before each
-- limit.
use Rattle.nfa_paths.proofs.Common.{◌≡◌, ℕ, ◌+◌, ◌<◌, ◌↔◌, ◌∙◌, inl, inr, Bool, true, false, List, length, sym, ap, arith, Option, None, Some, rules, cases_lt, size_of_set, Search, Automaton, Pair, IsFirstTo, IsFirstPath, Passes, WantedBefore, edges, starts, last_of, path_pattern, HoldsPattern, HoldsUpTo, IsInsertable, IsFirstBefore, HoldsPath, IsOverlapResult, pattern_at, LeftmostFirst}
use Rattle.nfa_paths.proofs.ExistenceLemmas.{first_wanted-exists}
use Rattle.nfa_paths.proofs.PathToLemmas.{EndsWith-last, IsFirstTo-unique}
use Rattle.nfa_paths.proofs.SameScanLemmas.{first-along}
use Rattle.nfa_paths.proofs.PatternLemmas.{ends-pattern}
use Rattle.nfa_paths.proofs.SetLemmas.{full-holds, holds-below, size-none, size-empty}
use Rattle.nfa_paths.proofs.MemberLemmas.{same_some}

-- the pattern of the end of such a path
end-pattern : (nfa : Automaton) (x : Search) (capacity k : ℕ) (f : IsFirstBefore nfa x capacity k)
    → pattern_at nfa f.first.end ≡ Some k
end-pattern nfa x capacity k f =
    grind (arith, ends-pattern, EndsWith-last)

-- The set before is `old`: wanted is what it has room for.
module _ (nfa : Automaton) (x : Search) (old new : List Bool) (size : length new ≡ length old) where
  -- it is below the capacity
  below : (k : ℕ) → IsFirstBefore nfa x (length old) k → k < length new
  below k f =
      let w = f.first.wanted.wanted in
      let same : w.pattern ≡ k = same_some w.pattern k (sym w.pattern_is ∙ end-pattern nfa x (length old) k f) in
      grind arith

  -- a full set holds them all
  pub full-exact : ((k : ℕ) → HoldsPattern new k → IsFirstBefore nfa x (length old) k) → size_of_set new ≡ length new
      → (k : ℕ) → HoldsPattern new k ↔ IsFirstBefore nfa x (length new) k
  full-exact sound full k = (λ held. rw size (sound k held), λ met. full-holds new full k (below k (rw size at met)))

  module _ (wants : Pair → Bool) (tells : (v : Pair) → (wants v ≡ true) ↔ IsInsertable nfa x (length old) v)
      (empty : size_of_set old ≡ 0) (exact : (k : ℕ) → HoldsPattern new k ↔ IsFirstBefore nfa x (length new) k)
    where
      held-first : (k : ℕ) → HoldsPattern new k → IsFirstBefore nfa x (length old) k
      held-first k held = rw size at ((exact k).0 held)

      -- the first path of all says what the set holds
      up_to : (p : List Pair) → IsFirstTo (edges nfa x) (starts nfa x) (Passes wants) p → HoldsUpTo nfa x p new
      up_to p first =
          let held = (tells first.end).0 first.wanted in
          let last : last_of p ≡ Some first.end = EndsWith-last None first.end p first.path.ends in
          let pattern_is : path_pattern nfa p ≡ Some held.pattern =
          ends-pattern nfa p first.end last ∙ held.pattern_is in
          record {
            end = first.end;
            ends = last;
            pattern = held.pattern;
            pattern_is = held.pattern_is;
            holds = (exact held.pattern).1 (rw size (record {
              limit = first.end.1 + 1;
              along = p;
              first = first-before p first (first.end.1 + 1) (omega arith);
              pattern_is = pattern_is;
            }));
            others = λ k held_too.
                let f = held-first k held_too in
                elim (cases_lt f.first.end.1 first.end.1) [
                  | inl earlier ↦ inr (search (rules, end-pattern))
                  | inr behind ↦
                      let within : f.first.end.1 < f.limit = f.first.wanted.before in
                      let same : f.along ≡ p = IsFirstTo-unique (edges nfa x) (starts nfa x)
                      (WantedBefore (IsInsertable nfa x (length old)) f.limit) f.along p f.first
                      (first-before p first f.limit (omega arith)) in
                      inl (same_some k held.pattern (sym f.pattern_is ∙ ap (path_pattern nfa) same ∙ pattern_is))
                ];
            exact = exact;
          }
        where
          first-before : (p : List Pair) (first : IsFirstTo (edges nfa x) (starts nfa x) (Passes wants) p) (limit : ℕ)
              → first.end.1 < limit
              → IsFirstTo (edges nfa x) (starts nfa x) (WantedBefore (IsInsertable nfa x (length old)) limit) p
          first-before p first limit less = record {
            end = first.end;
            path = first.path;
            wanted = record { wanted = (tells first.end).0 first.wanted; before = less };
            first = λ m q w t. first.first m q w ((tells m).1 t.wanted);
          }

      pub exact-result : IsOverlapResult nfa x LeftmostFirst false old new
      exact-result = record {
        capacity = size;
        keeps = λ k held. absurd (size-none old empty k held);
        sound = λ k held.
            let f = held-first k held in
            let less : k < length new = holds-below new k held in
            inr (
              omega arith,
              search (rules, end-pattern),
            );
        gains = record {
          full = λ some. absurd (omega arith);
          empty = λ no.
              let first = first_wanted-exists nfa x wants (λ v t. ((tells v).0 t).permitted.matches) in
              grind (arith, first-along, holds);
        };
      }
        where
          holds : (r : Option (List Pair)) → IsFirstPath (edges nfa x) (starts nfa x) (Passes wants) r
              → HoldsPath nfa x false r new
          holds None none = size-empty new (λ k held.
              let f = held-first k held in
              none f.first.end f.along f.first.path ((tells f.first.end).1 f.first.wanted.wanted))
          holds (Some p) first = up_to p first
