-- How a list of pairs that follows edges goes on from a state: by a way without a byte, then over a byte or to a Match.
use Rattle.nfa_paths.proofs.Common.{◌≡◌, ◌∙◌, ◌≤◌, ◌<◌, ℕ, ◌+◌, inl, inr, Bool, false, true, cases_lt, look_holds, nat_tests, List, [], ◌∷◌, ◌++◌, length, replicate, refl, sym, ap, subst, arith, length-set, Option, None, Some, is_some, option_to_list, slice_set, cases_Bool, Search, Automaton, Node, Pair, In, Slots, apply, write, Holding, holding_at, epsilon_states, rests, node_at, capture, edges, byte_at, target_on, pattern_of, slot_of, start_state, slot_row, Look, Union, BinaryUnion, Capture, ByteRange, Sparse, Dense, Fail}
use Rattle.thompson_nfa.specs.Automaton.Node.{Match}
use Rattle.thompson_nfa.specs.declared.look.Look as looks
use Rattle.thompson_nfa.specs.declared.look.Look.TheVariants.{End}
use Rattle.nfa_paths.proofs.StartLemmas.{resting-edges, epsilon-edges, byte_at-within, IsMatch-capture, resting-capture}
use Rattle.nfa_paths.proofs.AnswerLemmas.{apply-slot_row}
use Rattle.nfa_paths.proofs.FirstStartLemmas.{path-order}
use Rattle.nfa_paths.proofs.MemberLemmas.{In-map, same_some}
use Rattle.nfa_paths.proofs.EdgeLemmas.{edge-is}
use Rattle.nfa_onepass.specs.Ways.{HasOnlyEnds, IsDead, IsNowhere, IsOnWay, IsOnly, IsOnlyEnd, IsReachedFrom, IsShut, IsSure, IsTail, IsWhole, Way, free_states, here, over, write_each, written}

-- what a state leads to where its assertion holds, it leads to if each holds
free-more : (holding : Holding) (node : Node) (s : ℕ) → In s (epsilon_states holding node)
    → In s (free_states true node)
free-more holding (Look look next) s i = grind arith
free-more holding _ s i = i

-- what a state leads to if no assertion holds, it leads to everywhere
free-less : (holding : Holding) (node : Node) (s : ℕ) → In s (free_states false node)
    → In s (epsilon_states holding node)
free-less holding (Look look next) s i = absurd i
free-less holding _ s i = i

-- the assertion of the end holds at the end of the haystack and nowhere else
end-holds : (look : looks.Look) (haystack : List ℕ) → look ≡ End → look_holds look haystack (length haystack) ≡ true
end-holds look haystack is = rw is (grind (arith, nat_tests))

end-fails : (look : looks.Look) (haystack : List ℕ) (at : ℕ) → look ≡ End → at < length haystack
    → look_holds look haystack at ≡ false
end-fails look haystack at is low = rw is (grind (arith, nat_tests))

-- so a state without another assertion leads to the same as if each holds, or none does
free-at_end : (haystack : List ℕ) (node : Node) (s : ℕ) → IsOnlyEnd node → In s (free_states true node)
    → In s (epsilon_states (holding_at haystack (length haystack)) node)
free-at_end haystack (Look look next) s only i = rw (end-holds look haystack (only look next refl)) i
free-at_end haystack (Union alternates) s only i = i
free-at_end haystack (BinaryUnion alt1 alt2) s only i = i
free-at_end haystack (Capture next slot) s only i = i
free-at_end haystack (ByteRange trans) s only i = i
free-at_end haystack (Sparse transitions) s only i = i
free-at_end haystack (Dense targets) s only i = i
free-at_end haystack Fail s only i = i
free-at_end haystack (Match pattern) s only i = i

free-before_end : (haystack : List ℕ) (at : ℕ) (node : Node) (s : ℕ) → IsOnlyEnd node → at < length haystack
    → In s (epsilon_states (holding_at haystack at) node) → In s (free_states false node)
free-before_end haystack at (Look look next) s only low i =
    absurd (rw (end-fails look haystack at (only look next refl) low) at i)
free-before_end haystack at (Union alternates) s only low i = i
free-before_end haystack at (BinaryUnion alt1 alt2) s only low i = i
free-before_end haystack at (Capture next slot) s only low i = i
free-before_end haystack at (ByteRange trans) s only low i = i
free-before_end haystack at (Sparse transitions) s only low i = i
free-before_end haystack at (Dense targets) s only low i = i
free-before_end haystack at Fail s only low i = i
free-before_end haystack at (Match pattern) s only low i = i

-- a state that rests leads nowhere without a byte
free-rests : (looks : Bool) (node : Node) (s : ℕ) → rests node ≡ true → In s (free_states looks node) → ⊥
free-rests looks (ByteRange trans) s r i = i
free-rests looks (Sparse transitions) s r i = i
free-rests looks (Dense targets) s r i = i
free-rests looks Fail s r i = i
free-rests looks (Match pattern) s r i = i
free-rests looks (Look look next) s r i = cc
free-rests looks (Union alternates) s r i = cc
free-rests looks (BinaryUnion alt1 alt2) s r i = cc
free-rests looks (Capture next slot) s r i = cc

-- what a state writes is written before the rest
write_each-written : (o : Option ℕ) (ws : List ℕ) (at : ℕ) (slots : Slots)
    → write_each (option_to_list o ++ ws) at slots ≡ write_each ws at (write o at slots)
write_each-written None ws at slots = refl
write_each-written (Some k) ws at slots = refl

-- writes keep the length
pub length-write_each : (ws : List ℕ) (at : ℕ) (slots : Slots) → length (write_each ws at slots) ≡ length slots
length-write_each [] at slots = refl
length-write_each (k ∷ ws) at slots = length-write_each ws at (slice_set slots k (Some at))
    ∙ length-set slots k (Some at)

-- what is there
pattern-some : (o : Option ℕ) → is_some o ≡ true → (k : ℕ) × (o ≡ Some k)
pattern-some None t = cc
pattern-some (Some k) t = (k, refl)

-- a state that the byte leads on from rests
target-rests : (node : Node) (b to : ℕ) → target_on node b ≡ Some to → rests node ≡ true
target-rests (ByteRange trans) b to e = refl
target-rests (Sparse transitions) b to e = refl
target-rests (Dense targets) b to e = refl
target-rests Fail b to e = refl
target-rests (Match pattern) b to e = refl
target-rests (Look look next) b to e = cc
target-rests (Union alternates) b to e = cc
target-rests (BinaryUnion alt1 alt2) b to e = cc
target-rests (Capture next slot) b to e = cc

module _ (nfa : Automaton) (x : Search) where
  -- what states lead to at the position, they lead to if each assertion holds or none does
  abbrev pub Covers : Bool → ℕ → Type 0
  Covers looks at = (s t : ℕ) → In t (epsilon_states (holding_at x.haystack at) (node_at nfa s))
      → In t (free_states looks (node_at nfa s))

  -- and the other way round
  abbrev pub Holds : Bool → ℕ → Type 0
  Holds looks at = (s t : ℕ) → In t (free_states looks (node_at nfa s))
      → In t (epsilon_states (holding_at x.haystack at) (node_at nfa s))

  pub Covers-all : (at : ℕ) → Covers true at
  Covers-all at s t i = free-more (holding_at x.haystack at) (node_at nfa s) t i

  pub Covers-none : HasOnlyEnds nfa → (at : ℕ) → at < length x.haystack → Covers false at
  Covers-none only at low s t i = free-before_end x.haystack at (node_at nfa s) t (only s) low i

  pub Holds-none : (at : ℕ) → Holds false at
  Holds-none at s t i = free-less (holding_at x.haystack at) (node_at nfa s) t i

  pub Holds-all : HasOnlyEnds nfa → (at : ℕ) → at ≡ length x.haystack → Holds true at
  Holds-all only at is s t i =
      subst (λ (p : ℕ). In t (epsilon_states (holding_at x.haystack p) (node_at nfa s))) (sym is)
      (free-at_end x.haystack (node_at nfa s) t (only s) i)

  -- a list that begins with one more pair
  tail-behind : (s at : ℕ) (w m : Pair) (q : List Pair) → In w (edges nfa x (s, at)) → IsTail nfa x w m q
      → IsTail nfa x (s, at) m ((s, at) ∷ q)
  tail-behind s at w m [] i t = absurd t.head
  tail-behind s at w m (v ∷ q) i t = record {
    head = refl;
    linked = (rw (sym t.head) at i, t.linked);
    ends = t.ends;
    matches = t.matches;
  }

  -- a list and the pair that it begins with, without the pair
  tail-after : (s at : ℕ) (v w m : Pair) (p : List Pair) → IsTail nfa x (s, at) m (v ∷ (w ∷ p)) → (to : ℕ) → w.1 ≡ to
      → IsTail nfa x (w.0, to) m (w ∷ p)
  tail-after s at v w m p t to is = record {
    head = ap (λ (k : ℕ). (w.0, k)) is;
    linked = t.linked.1;
    ends = t.ends;
    matches = t.matches;
  }

  -- a list ends at the position where it begins or after it
  tail-later : (q : List Pair) (v m : Pair) → IsTail nfa x v m q → v.1 ≤ m.1
  tail-later q v m t = (path-order nfa x v m q t.head t.linked t.ends).0

  -- at the end of the span it ends there
  tail-end : (q : List Pair) (s : ℕ) (m : Pair) → IsTail nfa x (s, x.end) m q → m.1 ≡ x.end
  tail-end [] s m t = absurd t.head
  tail-end (v ∷ []) s m t = ap (λ (u : Pair). u.1) (sym t.ends ∙ t.head)
  tail-end (v ∷ (w ∷ p)) s m t =
      elim (edge-is x (node_at nfa s) x.end w (rw t.head at t.linked.0)) [
        | inl free ↦ tail-end (w ∷ p) w.0 m (tail-after s x.end v w m p t x.end free.0)
        | inr read ↦
            let inside = byte_at-within x x.end read.byte read.is in absurd (omega (arith, inside))
      ]

  -- a list goes back over a way
  way-tail : {looks : Bool} {s r : ℕ} {ws : List ℕ} (at : ℕ) (m : Pair) (q : List Pair) → Holds looks at
      → Way nfa looks s ws r → IsTail nfa x (r, at) m q → (p : List Pair) × IsTail nfa x (s, at) m p
  way-tail at m q holds here t = (q, t)
  way-tail {looks = looks} at m q holds (over {s = s} {t = u} i w) t =
      let k = way-tail at m q holds w t in
      elim (cases_Bool (rests (node_at nfa s))) [
        | inl r ↦ absurd (free-rests looks (node_at nfa s) u r i)
        | inr r ↦ (
          (s, at) ∷ k.0,
          tail-behind s at (u, at) m k.0
              (rw (epsilon-edges x (node_at nfa s) at r) (In-map (λ t. (t, at)) u
              (epsilon_states (holding_at x.haystack at) (node_at nfa s)) (holds s u i))) k.1,
        )
      ]

  -- and over a byte
  byte-tail : (s at b to : ℕ) (m : Pair) (q : List Pair) → byte_at x at ≡ Some b
      → target_on (node_at nfa s) b ≡ Some to → IsTail nfa x (to, at + 1) m q
      → IsTail nfa x (s, at) m ((s, at) ∷ q)
  byte-tail s at b to m q e target t =
      tail-behind s at (to, at + 1) m q
      (rw (resting-edges x (node_at nfa s) at (target-rests (node_at nfa s) b to target), e, target) (inl refl)) t

  -- A list goes on from the state at the position by a way, and then over the byte to the rest.
  record GoesOver (looks : Bool) (s at : ℕ) (m : Pair) (q : List Pair) (byte : ℕ) : Type 0 where
    slots : List ℕ
    last : ℕ
    to : ℕ
    rest : List Pair
    way : Way nfa looks s slots last
    reads : target_on (node_at nfa last) byte ≡ Some to
    tail : IsTail nfa x (to, at + 1) m rest
    same : (row : Slots) → apply (capture nfa) q row ≡ apply (capture nfa) rest (write_each slots at row)

  goes_over : (looks : Bool) (q : List Pair) (s at b : ℕ) (m : Pair) → Covers looks at → byte_at x at ≡ Some b
      → IsTail nfa x (s, at) m q → at < m.1 → GoesOver looks s at m q b
  goes_over looks [] s at b m covers e t low = absurd t.head
  goes_over looks (v ∷ []) s at b m covers e t low =
      let there : at ≡ m.1 = ap (λ (u : Pair). u.1) (sym t.head ∙ t.ends) in absurd (omega (arith, there, low))
  goes_over looks (v ∷ (w ∷ p)) s at b m covers e t low =
      elim (edge-is x (node_at nfa s) at w (rw t.head at t.linked.0)) [
        | inl free ↦
            let r = goes_over looks (w ∷ p) w.0 at b m covers e (tail-after s at v w m p t at free.0) low in
            record {
              slots = written (node_at nfa s) ++ r.slots;
              last = r.last;
              to = r.to;
              rest = r.rest;
              way = over (covers s w.0 free.1) r.way;
              reads = r.reads;
              tail = r.tail;
              same = λ row. ap (λ (u : Pair). apply (capture nfa) (w ∷ p) (write (capture nfa u) u.1 row)) t.head
                  ∙ r.same (write (slot_of (node_at nfa s)) at row)
                  ∙ ap (apply (capture nfa) r.rest) (sym (write_each-written (slot_of (node_at nfa s)) r.slots at row));
            }
        | inr read ↦
            let same_byte : read.byte ≡ b = same_some read.byte b (sym read.is ∙ e) in
            record {
              slots = [];
              last = s;
              to = w.0;
              rest = w ∷ p;
              way = here;
              reads = ap (target_on (node_at nfa s)) (sym same_byte) ∙ read.target;
              tail = tail-after s at v w m p t (at + 1) read.next;
              same = λ row. ap (λ (u : Pair). apply (capture nfa) (w ∷ p) (write (capture nfa u) u.1 row)) t.head
                  ∙ ap (λ (o : Option ℕ). apply (capture nfa) (w ∷ p) (write o at row))
                  (resting-capture nfa (s, at) read.rests);
            }
      ]

  -- A list ends at the position where it begins, by a way from the state to its Match.
  record IsEnding (looks : Bool) (s at : ℕ) (m : Pair) (q : List Pair) : Type 0 where
    slots : List ℕ
    way : Way nfa looks s slots m.0
    same : (row : Slots) → apply (capture nfa) q row ≡ write_each slots at row

  ending : (looks : Bool) (q : List Pair) (s at : ℕ) (m : Pair) → Covers looks at → IsTail nfa x (s, at) m q
      → m.1 ≡ at → IsEnding looks s at m q
  ending looks [] s at m covers t there = absurd t.head
  ending looks (v ∷ []) s at m covers t there =
      let e : (s, at) ≡ m = sym t.head ∙ t.ends in
      record {
        slots = [];
        way = subst (λ (r : ℕ). Way nfa looks s [] r) (ap (λ (u : Pair). u.0) e) here;
        same = λ row. ap (λ (o : Option ℕ). write o v.1 row)
            (ap (capture nfa) t.ends ∙ IsMatch-capture nfa m t.matches);
      }
  ending looks (v ∷ (w ∷ p)) s at m covers t there =
      elim (edge-is x (node_at nfa s) at w (rw t.head at t.linked.0)) [
        | inl free ↦
            let r = ending looks (w ∷ p) w.0 at m covers (tail-after s at v w m p t at free.0) there in
            record {
              slots = written (node_at nfa s) ++ r.slots;
              way = over (covers s w.0 free.1) r.way;
              same = λ row. ap (λ (u : Pair). apply (capture nfa) (w ∷ p) (write (capture nfa u) u.1 row)) t.head
                  ∙ r.same (write (slot_of (node_at nfa s)) at row)
                  ∙ sym (write_each-written (slot_of (node_at nfa s)) r.slots at row);
            }
        | inr read ↦
            let later = tail-later (w ∷ p) (w.0, at + 1) m (tail-after s at v w m p t (at + 1) read.next) in
            absurd (omega (arith, later, there))
      ]

  -- At its start a walk is on the way, and the start leads there.
  pub IsOnWay-first : (count s : ℕ) → IsOnWay nfa x count s (s, x.start) (replicate count None)
  IsOnWay-first count s = record { goes_on = λ m p t low. (p, t, apply-slot_row nfa count p) }

  pub IsReachedFrom-first : (s : ℕ) → IsReachedFrom nfa x s (s, x.start)
  IsReachedFrom-first s = record { comes = λ m q t. (q, t); late = λ m p t. tail-later p (s, x.start) m t }

  -- After a sure step over a byte it is still.
  pub IsOnWay-step : (looks : Bool) (count s u at b to : ℕ) (ws : List ℕ) (slots : Slots) → Covers looks at
      → IsOnWay nfa x count s (u, at) slots → byte_at x at ≡ Some b → IsSure nfa looks u (Some b) to ws
      → IsOnWay nfa x count s (to, at + 1) (write_each ws at slots)
  IsOnWay-step looks count s u at b to ws slots covers on e sure = record {
    goes_on = λ m p t low.
        let g = on.goes_on m p t (omega (arith, low)) in
        let r = goes_over looks g.0 u at b m covers e g.1 (omega (arith, low)) in
        let k = sure.only r.last r.to r.slots r.way r.reads in (
          r.rest,
          subst (λ (z : ℕ). IsTail nfa x (z, at + 1) m r.rest) k.0 r.tail,
          ap (λ (us : List ℕ). apply (capture nfa) r.rest (write_each us at slots)) (sym k.1) ∙ sym (r.same slots)
              ∙ g.2,
        );
  }

  -- And the start leads there, after one that passes no assertion.
  pub IsReachedFrom-step : (count s u at b to : ℕ) (ws : List ℕ) (slots : Slots) → Covers false at
      → IsOnWay nfa x count s (u, at) slots → IsReachedFrom nfa x s (u, at) → byte_at x at ≡ Some b
      → IsSure nfa false u (Some b) to ws → IsShut nfa u → IsReachedFrom nfa x s (to, at + 1)
  IsReachedFrom-step count s u at b to ws slots covers on from e sure shut = record {
    comes = λ m q t.
        let k = way-tail at m ((sure.last, at) ∷ q) (Holds-none at) sure.way
        (byte-tail sure.last at b to m q e sure.has t) in
        from.comes m k.0 k.1;
    late = λ m p t.
        let low = from.late m p t in
        elim (cases_lt at m.1) [
          | inl more ↦ omega (arith, more)
          | inr less ↦
              let there : m.1 ≡ at = omega (arith, low, less) in
              let g = on.goes_on m p t low in
              let r = ending false g.0 u at m covers g.1 there in
              let j = pattern-some (pattern_of (node_at nfa m.0)) t.matches in
              absurd (shut m.0 j.0 r.slots r.way j.1)
        ];
  }

  -- If no way leads on from there over the byte, no path from the start leads to a Match.
  pub IsNowhere-dead : (count s u at b : ℕ) (slots : Slots) → Covers false at → start_state nfa x.anchored ≡ Some s
      → IsOnWay nfa x count s (u, at) slots → IsReachedFrom nfa x s (u, at) → byte_at x at ≡ Some b
      → IsDead nfa false u (Some b) → IsNowhere nfa x
  IsNowhere-dead count s u at b slots covers begins on from e dead = λ z m p first t.
      let z_is : z ≡ s = same_some z s (sym first ∙ begins) in
      let tail = subst (λ (y : ℕ). IsTail nfa x (y, x.start) m p) z_is t in
      let low = from.late m p tail in
      let g = on.goes_on m p tail low in
      elim (cases_lt at m.1) [
        | inl more ↦
            let r = goes_over false g.0 u at b m covers e g.1 more in
            dead.none r.last r.to r.slots r.way r.reads
        | inr less ↦
            let r = ending false g.0 u at m covers g.1 (omega (arith, low, less)) in
            let j = pattern-some (pattern_of (node_at nfa m.0)) t.matches in
            dead.shut refl b refl m.0 j.0 r.slots r.way j.1
      ]

  -- Nor does one if no way leads to a Match from there at the end of the span.
  pub IsNowhere-end : (count s u : ℕ) (slots : Slots) → start_state nfa x.anchored ≡ Some s
      → IsOnWay nfa x count s (u, x.end) slots → IsReachedFrom nfa x s (u, x.end) → IsDead nfa true u None
      → IsNowhere nfa x
  IsNowhere-end count s u slots begins on from dead = λ z m p first t.
      let z_is : z ≡ s = same_some z s (sym first ∙ begins) in
      let tail = subst (λ (y : ℕ). IsTail nfa x (y, x.start) m p) z_is t in
      let g = on.goes_on m p tail (from.late m p tail) in
      let r = ending true g.0 u x.end m (Covers-all x.end) g.1 (tail-end g.0 u m g.1) in
      let j = pattern-some (pattern_of (node_at nfa m.0)) t.matches in
      dead.none m.0 j.0 r.slots r.way j.1

  -- With the step to a Match at the end of the span, the slots are those of each path that ends there.
  pub IsOnly-end : (count s u k : ℕ) (ws : List ℕ) (slots : Slots) → length slots ≡ count
      → start_state nfa x.anchored ≡ Some s → IsOnWay nfa x count s (u, x.end) slots → IsSure nfa true u None k ws
      → IsOnly nfa x k (write_each ws x.end slots)
  IsOnly-end count s u k ws slots long begins on sure = record {
    only = λ z m p first t there.
        let z_is : z ≡ s = same_some z s (sym first ∙ begins) in
        let g = on.goes_on m p (subst (λ (y : ℕ). IsTail nfa x (y, x.start) m p) z_is t) (omega (arith, there)) in
        let r = ending true g.0 u x.end m (Covers-all x.end) g.1 there in
        let j = pattern-some (pattern_of (node_at nfa m.0)) t.matches in
        let h = sure.only m.0 j.0 r.slots r.way j.1 in (
          j.1 ∙ ap Some h.0,
          ap (λ (us : List ℕ). write_each us x.end slots) (sym h.1) ∙ sym (r.same slots) ∙ g.2
              ∙ ap (λ (n : ℕ). slot_row nfa n (Some p)) (sym (length-write_each ws x.end slots ∙ long)),
        );
  }

  -- If the start leads there and the span ends with the haystack, there is such a path, and each ends there.
  pub IsWhole-end : (count s u k p : ℕ) (ws : List ℕ) (slots after : Slots) → HasOnlyEnds nfa
      → x.end ≡ length x.haystack → start_state nfa x.anchored ≡ Some s → IsOnWay nfa x count s (u, x.end) slots
      → IsReachedFrom nfa x s (u, x.end) → IsSure nfa true u None k ws → IsOnly nfa x p after
      → IsWhole nfa x p after
  IsWhole-end count s u k p ws slots after ends whole begins on from sure only =
      let m : Pair = (sure.last, x.end) in
      let last : IsTail nfa x m m (m ∷ []) =
      record { head = refl; linked = tt; ends = refl; matches = ap is_some sure.has } in
      let back = way-tail x.end m (m ∷ []) (Holds-all ends x.end whole) sure.way last in
      let path = from.comes m back.0 back.1 in
      record {
        only = only;
        first = s;
        begins = begins;
        end = m;
        path = path.0;
        tail = path.1;
        ends = λ n q t.
            let g = on.goes_on n q t (from.late n q t) in tail-end g.0 u n g.1;
      }
