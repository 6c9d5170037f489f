-- States that were reached, and those that a state leads to without one of the bytes.
use Rattle.nfa_paths.proofs.Common.{◌≡◌, ◌∙◌, ℕ, zero, suc, ◌<◌, ◌≤◌, ◌⊎◌, inl, inr, List, [], ◌∷◌, ◌++◌, length, get_or, set, refl, sym, ap, subst, arith, All, Bool, true, false, Option, None, Some, Result, Ok, Err, IfOk, OnOk, is_some, if◌then◌else◌, option_and_then, slice_get, ℕ_discrete, append-nil, append_assoc, length-append, length-set, get_or-set_other, In, Node, Transition, ByteRange, Sparse, Dense, Union, BinaryUnion, first_target, holds_byte, target_on}
use Rattle.std.proofs.lemmas.List.{get_or_append_left}
use Rattle.nfa_paths.proofs.MemberLemmas.{In-append, In-append_left, In-append_right, same_some}
use Rattle.nfa_facts.specs.Reached.{AddsTo, AreMarked, HasOtherTargets, HasTargets}

-- lists that grow

pub AddsTo-none : (a : List ℕ) → AddsTo a a
AddsTo-none a = record { more = []; kept = sym (append-nil a) }

pub AddsTo-one : (a : List ℕ) (s : ℕ) → AddsTo a (a ++ s ∷ [])
AddsTo-one a s = record { more = s ∷ []; kept = refl }

pub AddsTo-then : {a b c : List ℕ} → AddsTo a b → AddsTo b c → AddsTo a c
AddsTo-then {a = a} f g = record {
  more = f.more ++ g.more;
  kept = g.kept ∙ ap (λ l. l ++ g.more) f.kept ∙ append_assoc a f.more g.more;
}

pub In-added : {a b : List ℕ} → AddsTo a b → (s : ℕ) → In s a → In s b
In-added {a = a} f s i = rw f.kept (In-append_left s a f.more i)

pub get-added : {a b : List ℕ} → AddsTo a b → (k : ℕ) → k < length a → get_or b k 0 ≡ get_or a k 0
get-added {a = a} f k less = ap (λ l. get_or l k 0) f.kept ∙ get_or_append_left a f.more 0 k less

pub length-added : {a b : List ℕ} → AddsTo a b → length a ≤ length b
length-added {a = a} f = omega (arith, ap length f.kept, length-append a f.more)

-- what holds of each place holds of each state
pub each-in : (P : ℕ → Type 0) (xs : List ℕ) → ((k : ℕ) → k < length xs → P (get_or xs k 0)) → (s : ℕ) → In s xs → P s
each-in P [] all s i = absurd i
each-in P (x ∷ xs) all s (inl e) = subst P (sym e) (all 0 (omega arith))
each-in P (x ∷ xs) all s (inr i) = each-in P xs (λ k less. all (suc k) (omega arith)) s i

-- marks

-- one state more is marked, and listed
pub AreMarked-more : (marks : List Bool) (states : List ℕ) (s : ℕ) → s < length marks → AreMarked marks states
    → AreMarked (set marks s true) (states ++ s ∷ [])
AreMarked-more marks states s inside h = record {
  listed = λ t marked.
      elim (ℕ_discrete t s) [
        | yes e ↦ In-append_right t states (s ∷ []) (inl e)
        | no n ↦ In-append_left t states (s ∷ [])
            (h.listed t (sym (get_or-set_other marks s t true false n) ∙ marked))
      ];
  below = λ t i.
      elim (In-append t states (s ∷ []) i) [
        | inl old ↦ omega (arith, h.below t old, length-set marks s true)
        | inr new ↦ elim new [ inl e ↦ omega (arith, e, length-set marks s true) | inr never ↦ absurd never ]
      ];
}

-- what a state leads to

pub HasOtherTargets-added : {a b : List ℕ} {byte : Option ℕ} {node : Node} → AddsTo a b → HasOtherTargets a byte node
    → HasOtherTargets b byte node
HasOtherTargets-added f h = record { others = λ b t n e. In-added f t (h.others b t n e) }

pub HasTargets-added : {a b : List ℕ} {byte : Option ℕ} {node : Node} → AddsTo a b → HasTargets a byte node
    → HasTargets b byte node
HasTargets-added f h = record {
  without = λ k d less. In-added f _ (h.without k d less);
  over = HasOtherTargets-added f h.over;
}

module _ (states : List ℕ) (byte : Option ℕ) where
  -- the targets of transitions are those of each
  first-others : (ts : List Transition) → All (λ t. HasOtherTargets states byte (ByteRange t)) ts → (b u : ℕ)
      → ¬ (Some b ≡ byte) → first_target ts b ≡ Some u → In u states
  first-others [] all b u n e = absurd (cc e)
  first-others (t ∷ ts) all b u n e =
      of (holds_byte t b) refl (first-others ts (λ k d less. all (suc k) d (omega arith)) b u n) e
    where
      here : HasOtherTargets states byte (ByteRange t)
      here = all 0 t (omega arith)

      of : (h : Bool) → holds_byte t b ≡ h → (first_target ts b ≡ Some u → In u states)
          → (if h then Some t.next else first_target ts b) ≡ Some u → In u states
      of true holds later s = here.others b u n (ap (λ h. if h then Some t.next else None) holds ∙ s)
      of false holds later s = later s

  pub others-all : (ts : List Transition) → All (λ t. HasOtherTargets states byte (ByteRange t)) ts
      → HasOtherTargets states byte (Sparse ts)
  others-all ts all = record { others = first-others ts all }

  -- a union leads to its alternates, and reads no byte
  pub union-targets : (alternates : List ℕ) → All (λ s. In s states) alternates
      → HasTargets states byte (Union alternates)
  union-targets alternates all = record { without = all; over = record { others = λ b t n e. absurd (cc e) } }

  pub pair-targets : (a b : ℕ) → In a states → In b states → HasTargets states byte (BinaryUnion a b)
  pair-targets a b i j = record { without = each; over = record { others = λ b t n e. absurd (cc e) } }
    where
      each : All (λ s. In s states) (a ∷ b ∷ [])
      each zero d less = i
      each (suc zero) d less = j
      each (suc (suc k)) d less = absurd (omega arith)

-- the target at the index of a byte
pub dense-get : (targets : List (Option ℕ)) (b t : ℕ) → target_on (Dense targets) b ≡ Some t
    → slice_get targets b ≡ Some (Some t)
dense-get targets b t e = of (slice_get targets b) e
  where
    of : (o : Option (Option ℕ)) → option_and_then (λ target. target) o ≡ Some t → o ≡ Some (Some t)
    of None e = absurd (cc e)
    of (Some None) e = absurd (cc e)
    of (Some (Some u)) e = ap Some e

-- results

pub ok-then : {T E : Type 0} {P Q : Type 0} (r : Result T E) → (P → Q) → OnOk r P → OnOk r Q
ok-then (Ok x) each h = each h
ok-then (Err e) each h = tt

pub ok-both : {T E : Type 0} {P Q R : Type 0} (r : Result T E) → (P → Q → R) → OnOk r P → OnOk r Q → OnOk r R
ok-both (Ok x) each h k = each h k
ok-both (Err e) each h k = tt

-- an item that was pushed
pub In-pushed : (old new : List ℕ) (s : ℕ) → new ≡ old ++ s ∷ [] → In s new
In-pushed old new s e = rw e (In-append_right s old (s ∷ []) (inl refl))

pub none-of : (o : Option ℕ) (b : Bool) → b ≡ is_some o → b ≡ false → o ≡ None
none-of None b e f = refl
none-of (Some s) b e f = absurd (cc (e, f))

pub if-ok-then : {T E : Type 0} {P Q : T → Type 0} (r : Result T E) → ((x : T) → P x → Q x) → IfOk r P → IfOk r Q
if-ok-then (Ok x) each h = each x h
if-ok-then (Err e) each h = tt

-- whether an option holds a number
pub tell : (o : Option ℕ) (b : ℕ) → (o ≡ Some b) ⊎ ¬ (o ≡ Some b)
tell None b = inr (λ e. absurd (cc e))
tell (Some c) b =
    elim (ℕ_discrete c b) [
      | yes e ↦ inl (ap Some e)
      | no n ↦ inr (λ e. n (same_some c b e))
    ]
