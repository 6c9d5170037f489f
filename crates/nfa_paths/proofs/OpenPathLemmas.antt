-- Each path of a search is a way through the states of its NFA.
use Rattle.nfa_paths.proofs.Common.{◌≡◌, ℕ, zero, suc, ◌+◌, ◌<◌, inl, inr, List, [], ◌∷◌, map, length, get_or, refl, sym, arith, subst, Option, Some, None, Bool, option_map, option_and_then, option_to_list, filter_map, if◌then◌else◌, slice_get, Search, Automaton, Node, look_holds, Pair, In, Linked, node_at, path_pattern, edges, edges_of, byte_at, target_on, first_target, holds_byte, Transition, ByteRange, Sparse, Dense, Look}
use Rattle.nfa_paths.specs.Starts.{started_at}
use Rattle.nfa_paths.specs.StatePaths.{targets, reads, position_after, open_edges}
use Rattle.nfa_paths.proofs.MemberLemmas.{In-map}

-- an element of a list is in it
pub In-get_or : {A : Type 0} (xs : List A) (k : ℕ) (d : A) → k < length xs → In (get_or xs k d) xs
In-get_or [] k d h = absurd (omega arith)
In-get_or (x ∷ xs) zero d h = inl refl
In-get_or (x ∷ xs) (suc k) d h = inr (In-get_or xs k d (omega arith))

-- the pattern of a path does not depend on the anchored start
pub pattern-alone : (nfa : Automaton) (state : ℕ) (r : Option (List Pair))
    → option_and_then (path_pattern (started_at nfa state)) r ≡ option_and_then (path_pattern nfa) r
unfolding node_at
pattern-alone nfa state r = refl

-- the target on a byte is a target of the state

first-in : (ts : List Transition) (b t : ℕ) → first_target ts b ≡ Some t → In t (map (λ u. u.next) ts)
first-in [] b t e = cc
first-in (u ∷ ts) b t e = grind (arith, first-in ts b t)

present-in : (places : List (Option ℕ)) (b t : ℕ) → option_and_then (λ target. target) (slice_get places b) ≡ Some t
    → In t (filter_map (λ target. target) places)
present-in [] b t e = cc
present-in (o ∷ places) zero t e = grind arith
present-in (o ∷ places) (suc b) t e = grind (arith, present-in places b t e)

range-in : (u : Transition) (b t : ℕ) → (if holds_byte u b then Some u.next else None) ≡ Some t → In t (u.next ∷ [])
range-in u b t e = grind arith

-- an edge over a byte leads to a target, one position on
byte-edge : (x : Search) (node : Node) (ts : List ℕ) (p : ℕ) (w : Pair)
    → ((b t : ℕ) → target_on node b ≡ Some t → In t ts)
    → In w (option_to_list (option_and_then (λ b. option_map (λ next. (next, p + 1)) (target_on node b)) (byte_at x p)))
    → In w (map (λ s. (s, p + 1)) ts)
byte-edge x node ts p w all i = read (byte_at x p) i
  where
    leads : (b : ℕ) (o : Option ℕ) → target_on node b ≡ o → In w (option_to_list (option_map (λ next. (next, p + 1)) o))
        → In w (map (λ s. (s, p + 1)) ts)
    leads b None e i = absurd i
    leads b (Some t) e (inl same) = subst (λ (z : Pair). In z (map (λ s. (s, p + 1)) ts)) (sym same)
        (In-map (λ s. (s, p + 1)) t ts (all b t e))
    leads b (Some t) e (inr never) = absurd never

    read : (o : Option ℕ)
        → In w (option_to_list (option_and_then (λ b. option_map (λ next. (next, p + 1)) (target_on node b)) o))
        → In w (map (λ s. (s, p + 1)) ts)
    read None i = absurd i
    read (Some b) i = leads b (target_on node b) refl i

look-edge : (holds : Bool) (next p : ℕ) (w : Pair) → In w (if holds then (next, p) ∷ [] else [])
    → In w ((next, p) ∷ [])
look-edge holds next p w i = grind arith

open-edge : (x : Search) (node : Node) (p : ℕ) (w : Pair) → In w (edges_of x node p)
    → In w (map (λ s. (s, position_after node p)) (targets node))
unfolding edges_of targets reads
open-edge x (ByteRange u) p w i = byte-edge x (ByteRange u) (u.next ∷ []) p w (range-in u) i
open-edge x (Sparse ts) p w i = byte-edge x (Sparse ts) (map (λ u. u.next) ts) p w (first-in ts) i
open-edge x (Dense places) p w i =
    byte-edge x (Dense places) (filter_map (λ target. target) places) p w (present-in places) i
open-edge x (Look look next) p w i = look-edge (look_holds look x.haystack p) next p w i
open-edge x _ p w i = i

module _ (nfa : Automaton) (x : Search) where
  -- linked edges are linked open edges
  pub linked-open : (p : List Pair) → Linked (edges nfa x) p → Linked (open_edges nfa) p
  linked-open [] l = tt
  linked-open (v ∷ []) l = tt
  linked-open (v ∷ (w ∷ p)) l = (open-edge x (node_at nfa v.0) v.1 w l.0, linked-open (w ∷ p) l.1)
