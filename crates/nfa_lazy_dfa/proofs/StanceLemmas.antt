-- A row stands for the configuration of a scan, and the row that a byte leads to for the next one.
use Rattle.nfa_paths.proofs.Common.{◌≡◌, ℕ, zero, suc, ◌+◌, ◌-◌, ◌<◌, inl, inr, Bool, true, false, List, [], ◌∷◌, ◌++◌, get_or, set, replicate, length, refl, ap, sym, ◌∙◌, subst, arith, Option, None, Some, is_some, ◌&&◌, if◌then◌else◌, option_to_list, slice_get, cases_Bool, lt-ltb, Search, MatchKind, Automaton, Node, In, rests, byte_at, node_at, start_state, LeftmostFirst, Look, Holding, epsilon_states, holding_at, byte_before, slice_get_within}
use Rattle.regex_search_core.specs.declared.search.MatchKind.TheVariants.{All}
use Rattle.nfa_lazy_dfa.specs.Closures.{closure, explore, kept, pattern_by_kind, step}
use Rattle.nfa_lazy_dfa.specs.Configurations.{Configuration, IsDead, advance, closure_at, start_here, starts_after}
use Rattle.nfa_lazy_dfa.proofs.ExploreLemmas.{explore-none}
use Rattle.nfa_lazy_dfa.specs.Assertions.{IsRead, SameLooks, sees}
use Rattle.nfa_lazy_dfa.specs.Stances.{Covers, IsNext, StandsFor, Stance, goes_on, here, hit_here, start_if}
use Rattle.nfa_lazy_dfa.proofs.AssertionLemmas.{same-at}
use Rattle.thompson_nfa.specs.declared.look.Look as looks

-- a state leads on alike if its assertion holds alike
epsilon-same : (a b : Holding) (node : Node)
    → ((look : looks.Look) (next : ℕ) → node ≡ Look look next → a look ≡ b look)
    → epsilon_states a node ≡ epsilon_states b node
epsilon-same a b (Look look next) e = ap (λ (v : Bool). if v then next ∷ [] else []) (e look next refl)
epsilon-same a b _ e = refl

module _ (nfa : Automaton) (a b : Holding) (alike : SameLooks nfa a b) where
  explore-same : (left : ℕ) (seen : List Bool) (waiting : List ℕ)
      → explore nfa a left seen waiting ≡ explore nfa b left seen waiting
  unfolding explore
  explore-same zero seen waiting = explore-none nfa a seen waiting ∙ sym (explore-none nfa b seen waiting)
  explore-same (suc left) seen [] = refl
  explore-same (suc left) seen (s ∷ waiting) =
      elim (cases_Bool (get_or seen s true)) [
        | inl was ↦ rw was (explore-same (suc left) seen waiting)
        | inr clear ↦
            elim (cases_Bool (rests (node_at nfa s))) [
              | inl r ↦ rw (clear, r)
                  (ap (λ (out : List ℕ). s ∷ out) (explore-same left (set seen s true) waiting))
              | inr r ↦ rw (clear, r) (
                  explore-same left (set seen s true) (epsilon_states a (node_at nfa s) ++ waiting)
                  ∙ ap (λ (more : List ℕ). explore nfa b left (set seen s true) (more ++ waiting))
                  (epsilon-same a b (node_at nfa s) (alike.same s))
                  )
            ]
      ]

  pub closure-same : (states : List ℕ) → closure nfa a states ≡ closure nfa b states
  closure-same states = explore-same (length nfa.states) (replicate (length nfa.states) false) states

-- how many positions a match may start at after this one
starts-next : (kind : MatchKind) (hit : Option ℕ) (more : Bool) (n d : ℕ) → n - 1 ≡ (if more then d else 0)
    → starts_after kind hit n ≡ (if (more && goes_on kind hit) then d else 0)
starts-next LeftmostFirst (Some k) true n d e = refl
starts-next LeftmostFirst (Some k) false n d e = refl
starts-next LeftmostFirst None true n d e = e
starts-next LeftmostFirst None false n d e = e
starts-next All hit true n d e = e
starts-next All hit false n d e = e

and-left : (a b : Bool) → (a && b) ≡ true → a ≡ true
and-left true b e = refl
and-left false b e = e

module _ (nfa : Automaton) (x : Search) where
  start-list : (more : Bool) (n k : ℕ) → n ≡ (if more then suc k else 0)
      → (more ≡ true → start_state nfa x.anchored ≡ Some nfa.anchored) → start_here nfa x n ≡ start_if nfa more
  start-list true n k e begins = rw e (ap option_to_list (begins refl))
  start-list false n k e begins = rw e refl

  no-start : (n : ℕ) → start_here nfa x n ≡ [] → is_some (start_state nfa x.anchored) ≡ true → n ≡ 0
  no-start zero e some = refl
  no-start (suc n) e some = of (start_state nfa x.anchored) e some
    where
      of : (o : Option ℕ) → option_to_list o ≡ [] → is_some o ≡ true → suc n ≡ 0
      of None e some = cc
      of (Some s) e some = cc

append-empty : (xs ys : List ℕ) → xs ++ ys ≡ [] → (xs ≡ []) × (ys ≡ [])
append-empty [] ys e = (refl, e)
append-empty (a ∷ xs) ys e = cc

module _ (nfa : Automaton) (x : Search) (kind : MatchKind) where
  -- both have one closure, if the byte there may be read
  pub stands-here : (at : ℕ) (s : Stance) (c : Configuration) → StandsFor nfa x at s c
      → IsRead nfa (slice_get x.haystack at) → closure_at nfa x at c ≡ here nfa s (slice_get x.haystack at)
  stands-here at s c stands read =
      sym (stands.states.same (holding_at x.haystack at))
      ∙ sym (closure-same nfa (sees s.before (slice_get x.haystack at)) (holding_at x.haystack at)
      (stands.sees read) s.states)

  -- over a byte
  pub stands-next : (earliest : Bool) (at byte : ℕ) (s t : Stance) (c : Configuration) → StandsFor nfa x at s c
      → at < x.end → byte_at x at ≡ Some byte → slice_get x.haystack at ≡ Some byte → IsNext nfa kind s byte t
      → StandsFor nfa x (at + 1) t (advance nfa x kind earliest at c)
  stands-next earliest at byte s t c stands inside is there next =
      let read : IsRead nfa (slice_get x.haystack at) = subst (IsRead nfa) (sym there) next.read in
      let same : closure_at nfa x at c ≡ here nfa s (Some byte) =
      stands-here at s c stands read ∙ ap (here nfa s) there in
      let length_is : at < length x.haystack = slice_get_within x.haystack at byte there in
      let before : byte_before x.haystack (at + 1) ≡ Some byte =
      let positive : 0 < at + 1 = omega arith in
      let back : at + 1 - 1 ≡ at = omega arith in
      rw (lt-ltb 0 (at + 1) positive) (ap (slice_get x.haystack) back ∙ there) in
      let k = x.end - (at + 1) in
      let left : x.end - at ≡ suc k = omega arith in
      let hit = hit_here nfa kind s (Some byte) in
      let hit_is : pattern_by_kind nfa kind (closure_at nfa x at c) ≡ hit = ap (pattern_by_kind nfa kind) same in
      let count : starts_after kind hit c.starts ≡ (if (s.more && goes_on kind hit) then suc k else 0) =
      starts-next kind hit s.more c.starts (suc k) (stands.starts ∙ ap (λ (n : ℕ). if s.more then n else 0) left) in
      let counted : starts_after kind (pattern_by_kind nfa kind (closure_at nfa x at c)) c.starts
      ≡ (if t.more then suc k else 0) =
      ap (λ (o : Option ℕ). starts_after kind o c.starts) hit_is ∙ count
      ∙ ap (λ (b : Bool). if b then suc k else 0) (sym next.more) in
      let begins : t.more ≡ true → start_state nfa x.anchored ≡ Some nfa.anchored =
      λ more. stands.begins (and-left s.more (goes_on kind hit) (sym next.more ∙ more)) in
      let stepped : step nfa (Some byte) (kept nfa kind (here nfa s (Some byte)))
      ≡ (advance nfa x kind earliest at c).states =
      ap (λ (o : Option ℕ). step nfa o (kept nfa kind (here nfa s (Some byte)))) (sym is)
      ∙ ap (λ (h : List ℕ). step nfa (byte_at x at) (kept nfa kind h)) (sym same) in
      let list : step nfa (Some byte) (kept nfa kind (here nfa s (Some byte))) ++ start_if nfa t.more
      ≡ (advance nfa x kind earliest at c).states ++ start_here nfa x (advance nfa x kind earliest at c).starts =
      ap (λ (o : Option ℕ). step nfa o (kept nfa kind (here nfa s (Some byte))) ++ start_if nfa t.more) (sym is)
      ∙ ap (λ (h : List ℕ). step nfa (byte_at x at) (kept nfa kind h) ++ start_if nfa t.more) (sym same)
      ∙ ap (λ (ys : List ℕ). step nfa (byte_at x at) (kept nfa kind (closure_at nfa x at c)) ++ ys)
      (sym (start-list nfa x t.more
      (starts_after kind (pattern_by_kind nfa kind (closure_at nfa x at c)) c.starts) k counted begins)) in
      record {
        states = subst (Covers nfa t.states) list next.states;
        held = λ q i. next.held q (subst (In q) (sym stepped) i);
        sees = λ after. same-at nfa x.haystack (at + 1) (omega arith) t.before
            (subst (IsRead nfa) (sym before) next.read) after
            (subst (λ (o : Option ℕ). SameLooks nfa (sees t.before (slice_get x.haystack (at + 1)))
            (sees o (slice_get x.haystack (at + 1)))) (sym before) (next.before (slice_get x.haystack (at + 1)) after));
        starts = ends t.more k (starts_after kind (pattern_by_kind nfa kind (closure_at nfa x at c)) c.starts) counted
            refl;
        begins = begins;
        some = stands.some;
      }
    where
      ends : (more : Bool) (k n : ℕ) → n ≡ (if more then suc k else 0) → k ≡ x.end - (at + 1)
          → n - 1 ≡ (if more then (x.end - (at + 1)) else 0)
      ends true k n e f = omega arith
      ends false k n e f = omega arith

  -- a row that is dead stands for a configuration that is
  pub stands-dead : (at : ℕ) (s : Stance) (c : Configuration) → StandsFor nfa x at s c → s.states ≡ [] → IsDead c
  stands-dead at s c stands none =
      let both = append-empty c.states (start_here nfa x c.starts) (stands.states.none none) in
      record { states = both.0; starts = no-start nfa x c.starts both.1 stands.some }
