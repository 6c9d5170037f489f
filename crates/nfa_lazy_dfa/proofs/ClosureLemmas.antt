-- How an exploration goes on when a state is taken from the stack; a state that a list has twice adds nothing.
use Rattle.nfa_paths.proofs.Common.{◌≡◌, ℕ, ◌+◌, ◌-◌, ◌<◌, Bool, true, false, List, [], ◌∷◌, ◌++◌, length, replicate, get_or, set, length-set, map, reverse, refl, ap, sym, ◌∙◌, subst, arith, append_assoc, append-nil, Some, All, sum, slice_get, length-append, length-replicate, length-reverse, reverse-append, reverse-reverse, All-append, All-head, All-nil, All-pop, All-push, All-tail, get_or_from_slice_get, slice_get-map, Automaton, Node, LeadsBelow, rests, degree, node_at, marked_sum, Holding, epsilon_states, zero, suc, ◌⊎◌, inl, inr, get_or-set_other, cases_Bool, eqb_tells, nat_tests, get_or-set_at, In, holding_at, NoRepeats}
use Rattle.nfa_paths.proofs.StartLemmas.{epsilon-all, epsilon-few}
use Rattle.nfa_paths.proofs.TurnLemmas.{marked_sum-set, marked_sum-le}
use Rattle.nfa_lazy_dfa.specs.Closures.{closure, FirstOfEachHasEachOnce, explore, first_of_each, without}
use Rattle.nfa_lazy_dfa.proofs.ExploreLemmas.{Explores, explore-is, unseen-all, explore-none, unseen-inside}
use Rattle.nfa_lazy_dfa.proofs.ExploreLemmas.Explores.{over, passes, keeps, opens}
use Rattle.nfa_paths.proofs.MemberLemmas.{In-append_left, In-append_right, In-middle}
use Rattle.nfa_lazy_dfa.specs.Configurations.{AdvancesWithEachOnce, next_configuration, start_here}

-- each state of a list is below n
abbrev pub AreBelow : ℕ → List ℕ → Type 0
AreBelow n states = All (λ s. s < n) states

AreBelow-reverse : (n : ℕ) (states : List ℕ) → AreBelow n states → AreBelow n (reverse states)
AreBelow-reverse n [] below = All-nil (λ s. s < n)
AreBelow-reverse n (s ∷ states) below =
    subst (AreBelow n) (sym (reverse-append (s ∷ []) states))
    (All-push (λ s. s < n) (reverse states) s (AreBelow-reverse n states (All-tail (λ s. s < n) s states below))
    (All-head (λ s. s < n) s states below))

-- the states that a state leads to without a byte
epsilon-below : (holding : Holding) (n : ℕ) (node : Node) → LeadsBelow n node
    → AreBelow n (epsilon_states holding node)
epsilon-below holding n node leads = epsilon-all (λ s. s < n) holding node (of node leads)
  where
    of : (node : Node) → LeadsBelow n node → AreBelow n (epsilon_states (λ look. true) node)
    of _ leads = grind arith

-- how many states may still be taken from the stack
abbrev pub takes_left : Automaton → List Bool → List ℕ → ℕ
takes_left nfa seen waiting =
    length waiting + (sum (map degree nfa.states) - marked_sum (map degree nfa.states) seen)

module _ (nfa : Automaton) (holding : Holding) where
  -- An exploration under way: the goal is what was kept, and then what the states on the stack lead to.
  pub record IsUnderWay (goal : List ℕ) (seen : List Bool) (waiting kept : List ℕ) : Type 0 where
    pub size : length seen ≡ length nfa.states
    pub states : AreBelow (length nfa.states) waiting
    pub below : AreBelow (length nfa.states) kept
    pub leads : (out : List ℕ) → Explores nfa holding seen (reverse waiting) out → kept ++ out ≡ goal

  pub IsUnderWay-begin : (states : List ℕ) → AreBelow (length nfa.states) states
      → IsUnderWay (closure nfa holding states) (replicate (length nfa.states) false) (reverse states) []
  IsUnderWay-begin states below = record {
    size = length-replicate (length nfa.states) false;
    states = AreBelow-reverse (length nfa.states) states below;
    below = All-nil (λ s. s < length nfa.states);
    leads = λ out e.
        explore-is nfa holding (rw (reverse-reverse states) at e) (length nfa.states) (omega (arith, unseen-all));
  }

  pub IsUnderWay-done : {goal : List ℕ} {seen : List Bool} {kept : List ℕ} → IsUnderWay goal seen [] kept
      → kept ≡ goal
  IsUnderWay-done {kept = kept} h = sym (append-nil kept) ∙ h.leads [] over

  -- the last of the stack is the first that is explored
  top : (waiting : List ℕ) (s : ℕ) → reverse (waiting ++ s ∷ []) ≡ s ∷ reverse waiting
  top waiting s = reverse-append waiting (s ∷ [])

  -- s was the last of the stack
  module _ {goal : List ℕ} {seen : List Bool} {stack kept : List ℕ} (waiting : List ℕ) (s : ℕ)
      (popped : stack ≡ waiting ++ s ∷ []) (h : IsUnderWay goal seen stack kept) where
    last : AreBelow (length nfa.states) waiting × (s < length nfa.states)
    last = All-pop (λ s. s < length nfa.states) stack waiting (Some s) popped h.states

    -- the goal, with the state that was taken first
    leads-top : (out : List ℕ) → Explores nfa holding seen (s ∷ reverse waiting) out → kept ++ out ≡ goal
    leads-top out e = h.leads out (rw (popped, top waiting s) e)

    pub IsUnderWay-seen : get_or seen s true ≡ true → IsUnderWay goal seen waiting kept
    IsUnderWay-seen t = record {
      size = h.size;
      states = last.0;
      below = h.below;
      leads = λ out e. leads-top out (passes t e);
    }

    pub IsUnderWay-kept : get_or seen s true ≡ false → rests (node_at nfa s) ≡ true
        → IsUnderWay goal (set seen s true) waiting (kept ++ s ∷ [])
    IsUnderWay-kept clear r = record {
      size = length-set seen s true ∙ h.size;
      states = last.0;
      below = All-push (λ s. s < length nfa.states) kept s h.below last.1;
      leads = λ out e. append_assoc kept (s ∷ []) out ∙ leads-top (s ∷ out) (keeps clear r e);
    }

    pub IsUnderWay-left : (node : Node) → node_at nfa s ≡ node → LeadsBelow (length nfa.states) node
        → get_or seen s true ≡ false → rests node ≡ false
        → IsUnderWay goal (set seen s true) (waiting ++ reverse (epsilon_states holding node)) kept
    IsUnderWay-left node is leads clear r =
        let n = length nfa.states in
        let next = epsilon_states holding node in
        let stack : reverse (waiting ++ reverse next) ≡ next ++ reverse waiting =
        reverse-append waiting (reverse next) ∙ ap (λ ts. ts ++ reverse waiting) (reverse-reverse next) in
        record {
          size = length-set seen s true ∙ h.size;
          states = All-append (λ s. s < n) waiting (reverse next) last.0
              (AreBelow-reverse n next (epsilon-below holding n node leads));
          below = h.below;
          leads = λ out e. leads-top out (opens clear (ap rests is ∙ r) (rw is (rw stack at e)));
        }

  -- the stack ends

  module _ (seen : List Bool) {stack : List ℕ} (waiting : List ℕ) (s : ℕ) (popped : stack ≡ waiting ++ s ∷ []) where
    long : length stack ≡ length waiting + 1
    long = ap (λ (ts : List ℕ). length ts) popped ∙ length-append waiting (s ∷ [])

    pub takes-seen : takes_left nfa seen waiting < takes_left nfa seen stack
    takes-seen = omega (arith, long)

    pub takes-kept : get_or seen s true ≡ false
        → takes_left nfa (set seen s true) waiting < takes_left nfa seen stack
    takes-kept clear = omega (arith, long, marked_sum-set (map degree nfa.states) seen s clear)

    pub takes-left : (node : Node) → slice_get nfa.states s ≡ Some node → get_or seen s true ≡ false
        → takes_left nfa (set seen s true) (waiting ++ reverse (epsilon_states holding node))
        < takes_left nfa seen stack
    takes-left node is clear =
        let ws = map degree nfa.states in
        let one : get_or ws s 0 ≡ degree node =
        get_or_from_slice_get ws s (degree node) 0 (rw (slice_get-map degree nfa.states s, is) refl) in
        omega (
          arith,
          one,
          long,
          length-append waiting (reverse (epsilon_states holding node)),
          length-reverse (epsilon_states holding node),
          epsilon-few holding node,
          marked_sum-set ws seen s clear,
          marked_sum-le ws (set seen s true),
        )

-- why the loop of a closure ends
pub ruleset closure_ends = (takes-seen, takes-kept, takes-left)

-- the state was seen, or is in the list
abbrev Comes : ℕ → List Bool → List ℕ → Type 0
Comes s seen before = (get_or seen s true ≡ true) ⊎ In s before

-- a state that was seen stays so, and the state that is seen now is seen
still-comes : (seen : List Bool) (t s : ℕ) (before : List ℕ) → get_or seen t true ≡ false → Comes s seen (t ∷ before)
    → Comes s (set seen t true) before
still-comes seen t s before clear h = grind (arith, get_or-set_other, get_or-set_at, unseen-inside)

was-passed : (seen : List Bool) (t s : ℕ) (before : List ℕ) → get_or seen t true ≡ true → Comes s seen (t ∷ before)
    → Comes s seen before
was-passed seen t s before was h = grind arith

still-further : (s : ℕ) (seen : List Bool) (targets before : List ℕ) → Comes s seen before
    → Comes s seen (targets ++ before)
still-further s seen targets before h = grind (arith, In-append_right)

module _ (nfa : Automaton) (holding : Holding) where
  -- an exploration passes over a state that comes earlier
  pub explore-repeat : (left : ℕ) (seen : List Bool) (before later : List ℕ) (s : ℕ) → Comes s seen before
      → explore nfa holding left seen (before ++ s ∷ later) ≡ explore nfa holding left seen (before ++ later)
  unfolding explore
  explore-repeat zero seen before later s h =
      explore-none nfa holding seen (before ++ s ∷ later) ∙ sym (explore-none nfa holding seen (before ++ later))
  explore-repeat (suc left) seen [] later s (inl was) = rw was refl
  explore-repeat (suc left) seen [] later s (inr i) = absurd i
  explore-repeat (suc left) seen (t ∷ before) later s h =
      elim (cases_Bool (get_or seen t true)) [
        | inl was ↦ rw was (explore-repeat (suc left) seen before later s (was-passed seen t s before was h))
        | inr clear ↦
            let next = still-comes seen t s before clear h in
            elim (cases_Bool (rests (node_at nfa t))) [
              | inl r ↦ rw (clear, r)
                  (ap (λ (out : List ℕ). t ∷ out) (explore-repeat left (set seen t true) before later s next))
              | inr r ↦ rw (clear, r)
                  (let targets = epsilon_states holding (node_at nfa t) in
                  simp append_assoc at (explore-repeat left (set seen t true) (targets ++ before) later s
                  (still-further s (set seen t true) targets before next)))
            ]
      ]

  pub closure-repeat : (before later : List ℕ) (s : ℕ) → In s before
      → closure nfa holding (before ++ s ∷ later) ≡ closure nfa holding (before ++ later)
  closure-repeat before later s i =
      explore-repeat (length nfa.states) (replicate (length nfa.states) false) before later s (inr i)

  -- all further ones of a state may be dropped
  closure-without : (before states later : List ℕ) (s : ℕ) → In s before
      → closure nfa holding (before ++ (without s states ++ later)) ≡ closure nfa holding (before ++ (states ++ later))
  closure-without before [] later s i = refl
  closure-without before (t ∷ states) later s i =
      elim (eqb_tells t s) [
        | inl same ↦ rw same.0 (
            closure-without before states later s i
            ∙ sym (closure-repeat before (states ++ later) t (rw same.1 i))
            )
        | inr other ↦ rw other.0 (simp append_assoc at
            (closure-without (before ++ t ∷ []) states later s (In-append_left s before (t ∷ []) i)))
      ]

  -- so may those of each state
  closure-first_of_each : (before states later : List ℕ)
      → closure nfa holding (before ++ (first_of_each states ++ later))
      ≡ closure nfa holding (before ++ (states ++ later))
  closure-first_of_each before [] later = refl
  closure-first_of_each before (s ∷ states) later =
      simp append_assoc at
      (closure-without (before ++ s ∷ []) (first_of_each states) later s (In-middle before s [])
      ∙ closure-first_of_each (before ++ s ∷ []) states later)

-- the next configuration is the same
pub advances-with-each-once : AdvancesWithEachOnce
advances-with-each-once nfa x kind earliest at c =
    ap (λ (here : List ℕ). next_configuration nfa x kind earliest at here c)
    (closure-first_of_each nfa (holding_at x.haystack at) [] c.states (start_here nfa x c.starts))

-- each state is there once

In-without : (s t : ℕ) (states : List ℕ) → In t (without s states) → In t states × (t ≡ s → ⊥)
In-without s t [] i = absurd i
In-without s t (u ∷ states) i = grind (arith, nat_tests, In-without s t states)

without-once : (s : ℕ) (states : List ℕ) → NoRepeats states → NoRepeats (without s states)
without-once s [] once = tt
without-once s (t ∷ states) once = grind (arith, nat_tests, In-without, without-once s states)

pub first_of_each-once : FirstOfEachHasEachOnce
first_of_each-once [] = tt
first_of_each-once (s ∷ states) =
    let once = first_of_each-once states in
    (λ i. (In-without s s (first_of_each states) i).1 refl, without-once s (first_of_each states) once)

-- the laws of repeats
pub ruleset repeats = (advances-with-each-once, closure-repeat, first_of_each-once)
