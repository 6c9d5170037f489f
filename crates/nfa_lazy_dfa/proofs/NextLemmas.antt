-- On to the next position: what was put aside is followed from the states that the byte leads to.
use Rattle.nfa_paths.proofs.Common.{◌≡◌, ℕ, ◌+◌, ◌<◌, ◌≤◌, inl, inr, Bool, true, false, List, [], ◌∷◌, ◌++◌, replicate, map, refl, ap, sym, ◌∙◌, arith, None, option_and_then, option_to_list, Search, Automaton, Pair, In, Slots, Hit, Task, ExploresTo, ExploresAfter, Searching, next_tasks, rests, node_at, byte_at, target_on, edges, starts, Explore, Load}
use Rattle.nfa_paths.proofs.SearchLemmas.{AnswerBehind-along}
use Rattle.nfa_paths.proofs.SearchingLemmas.{Searching-round}
use Rattle.nfa_paths.proofs.ScanAnswerLemmas.{edges-onward, edges-rise}
use Rattle.nfa_paths.proofs.MemberLemmas.{In-mapped}
use Rattle.nfa_lazy_dfa.specs.Closures.{step}
use Rattle.nfa_lazy_dfa.proofs.FollowLemmas.{pairs, place, bare, Finding, pairs-append, work-append, rests-edges}
use Rattle.nfa_scan_core.specs.Marks.{SeenAt}
use Rattle.nfa_scan_core.proofs.TargetLemmas.{SeenAt-none}

module _ (nfa : Automaton) (x : Search) (at : ℕ) where
  -- more work before it does not matter
  work-after : (target : Pair → Bool) (es : List Pair) (w v : List Task) (left : ℕ) (otherwise : Hit)
      (marks : List Pair) (g : Hit)
      → (ExploresTo (bare nfa x) target left otherwise marks w [] g
      → ExploresTo (bare nfa x) target left otherwise marks v [] g)
      → ExploresTo (bare nfa x) target left otherwise marks (map Explore es ++ w) [] g
      → ExploresTo (bare nfa x) target left otherwise marks (map Explore es ++ v) [] g
  unfolding ExploresTo
  work-after target [] w v left otherwise marks g f h = f h
  work-after target (e ∷ es) w v left otherwise marks g f (inl h) = inl h
  work-after target (e ∷ es) w v left otherwise marks g f (inr h) =
      inr (h.0, work-after target es w v left otherwise marks g f h.1)

  -- what was put aside answers as the states that the byte leads to
  round-work : (target : Pair → Bool) (states : List ℕ) → ((s : ℕ) → In s states → rests (node_at nfa s) ≡ true)
      → (rest : List Pair) (left : ℕ) (otherwise : Hit) (marks : List Pair) (g : Hit)
      → ExploresTo (bare nfa x) target left otherwise marks
      (map Explore (pairs (at + 1) (step nfa (byte_at x at) states) ++ rest)) [] g
      → ExploresTo (bare nfa x) target left otherwise marks
      (next_tasks (edges nfa x) (map (place at) states) (Load [] ∷ map Explore rest)) [] g
  unfolding ExploresTo next_tasks
  round-work target [] r rest left otherwise marks g h = h
  round-work target (s ∷ states) r rest left otherwise marks g h =
      let next = option_to_list (option_and_then (target_on (node_at nfa s)) (byte_at x at)) in
      let more = step nfa (byte_at x at) states in
      let split : map Explore (pairs (at + 1) (next ++ more) ++ rest)
      ≡ map Explore (pairs (at + 1) next) ++ map Explore (pairs (at + 1) more ++ rest) =
      ap (map Explore) (pairs-append (at + 1) next more rest)
      ∙ sym (work-append (pairs (at + 1) next) (pairs (at + 1) more ++ rest)) in
      rw (rests-edges x at (node_at nfa s) (r s (inl refl)))
      (work-after target (pairs (at + 1) next) (map Explore (pairs (at + 1) more ++ rest))
      (next_tasks (edges nfa x) (map (place at) states) (Load [] ∷ map Explore rest)) left otherwise marks g
      (round-work target states (λ t i. r t (inr i)) rest left otherwise marks g)
      (rw split at h))

-- a pair that was put aside is one of the states
pub place-among : (at : ℕ) (states : List ℕ) (a : Pair × Slots) → In a (map (place at) states)
    → (s : ℕ) × In s states × (a ≡ place at s)
place-among at states a i = In-mapped (place at) a states i

-- a pair among the work is among the pairs
pub Explore-among : (k : Pair) (rest : List Pair) → In (Explore k) (map Explore rest) → In k rest
Explore-among k rest i = grind (arith, In-mapped)

module _ (nfa : Automaton) (x : Search) (at : ℕ) (target : Pair → Bool) where
  -- slots that are loaded in vain
  Finding-load : {Seen : Pair → Type 0} {spent : ℕ} {front : List (Pair × Slots)} {otherwise : Hit} (rest : List Pair)
      → Finding nfa x target Seen spent front otherwise rest
      → Searching (bare nfa x) target
      (λ g total. ExploresTo (bare nfa x) target total None [] (map Explore (starts nfa x)) [] g) Seen spent front
      otherwise (Load [] ∷ map Explore rest) []
  unfolding ExploresTo
  Finding-load {front = front} {otherwise} rest s = record {
    marks = s.marks;
    agrees = s.agrees;
    leads = λ g left total e h.
        s.leads g left total e
        (AnswerBehind-along (bare nfa x) target front left left (omega arith) otherwise otherwise s.marks s.marks
        (Load [] ∷ map Explore rest) (map Explore rest) [] [] g (λ a. a) h);
  }

  -- the search goes on with the states that the byte leads to
  pub Finding-next : (states : List ℕ) → ((s : ℕ) → In s states → rests (node_at nfa s) ≡ true)
      → ((s : ℕ) → In s states → target (s, at) ≡ false) → {Seen : Pair → Type 0} {spent : ℕ} {otherwise : Hit}
      (rest : List Pair)
      → Finding nfa x target Seen spent (map (place at) states) otherwise rest
      → ((v : Pair) → Seen v → v.1 ≤ at) → ((k : Pair) → In k rest → at < k.1) → (n : ℕ)
      → Finding nfa x target (SeenAt (at + 1) (replicate n false)) spent [] otherwise
      (pairs (at + 1) (step nfa (byte_at x at) states) ++ rest)
  unfolding ExploresAfter
  Finding-next states r plain {spent = spent} {otherwise} rest s past later n =
      let next = Searching-round (bare nfa x) target {After = SeenAt (at + 1) (replicate n false)}
      (Finding-load rest s) (λ v. at < v.1)
      (λ v y a j. let k : v.1 ≤ y.1 = edges-onward nfa x v y j in let l : at < v.1 = a in omega arith)
      (λ a i. aside a (place-among at states a i)) (λ k i. later k (Explore-among k rest i))
      (λ v m a. let k : v.1 ≤ at = past v m in let l : at < v.1 = a in omega arith)
      (λ v m. SeenAt-none (at + 1) n v m) [] in
      record {
        marks = next.marks;
        agrees = next.agrees;
        leads = λ g left total e h.
            next.leads g left total e (round-work nfa x at target states r rest left otherwise next.marks g h);
      }
    where
      aside : (a : Pair × Slots) → ((t : ℕ) × In t states × (a ≡ place at t))
          → (target a.0 ≡ false) × ((bare nfa x).capture a.0 ≡ None) × (at < a.0.1 → ⊥)
          × ((w : Pair) → In w (edges nfa x a.0) → at < w.1)
      aside a h =
          rw h.2 (
            plain h.0 h.1,
            refl,
            λ l. let k : at < at = l in omega arith,
            λ w j. edges-rise nfa x (h.0, at) w (r h.0 h.1) j,
          )
