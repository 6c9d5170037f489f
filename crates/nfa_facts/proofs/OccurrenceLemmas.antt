-- Where bytes occur, byte by byte and in parts of a haystack, and the bytes of moves.
use Rattle.std.proofs.lemmas.List.Edits.{get_or-between, length-between}
use Rattle.memchr.specs.Find.{FindsNeedle, OccursAt}
use Rattle.nfa_paths.proofs.Common.{◌≡◌, ◌∙◌, ℕ, zero, suc, ◌+◌, ◌-◌, ◌<◌, ◌≤◌, List, [], ◌∷◌, length, take, get_or, refl, sym, ap, subst, arith, None, Some, slice_get, slice_range, get_or_from_slice_get, slice_get-get_or, ◌++◌, append_assoc, Bool, true, false, ◌==◌, if◌then◌else◌, option_to_list, option_map_or, append-nil, length-append, take-append-le, take_all, Transition, Automaton, LeadsBelow, Node, node_at, ByteRange, Sparse, Look, Capture}
use Rattle.nfa_facts.specs.Prefixes.{IsFirstOccurrence, OccursBefore, OccursNowhere, bytes_from, literal_at, move_over, only_move}
use Rattle.nfa_facts.specs.declared.literal.only_move.Move.{Move}

-- no bytes occur at each position up to the end
pub occurs-none : (haystack : List ℕ) (end at : ℕ) → at ≤ end → OccursBefore haystack end [] at
occurs-none haystack end at within = record { within = omega arith; same = λ k less. absurd (omega arith) }

-- one byte, and the others after it
pub occurs-cons : (haystack : List ℕ) (end b : ℕ) (bytes : List ℕ) (at : ℕ) → slice_get haystack at ≡ Some b
    → OccursBefore haystack end bytes (at + 1) → OccursBefore haystack end (b ∷ bytes) at
occurs-cons haystack end b bytes at read rest =
    let fits : at + 1 + length bytes ≤ end = rest.within in
    record { within = omega arith; same = each }
  where
    each : (k : ℕ) → k < length (b ∷ bytes) → slice_get haystack (at + k) ≡ slice_get (b ∷ bytes) k
    each zero less = let e : at + zero ≡ at = omega arith in ap (slice_get haystack) e ∙ read
    each (suc k) less =
        let e : at + suc k ≡ at + 1 + k = omega arith in ap (slice_get haystack) e ∙ rest.same k (omega arith)

get-take : (n : ℕ) (bytes : List ℕ) (k : ℕ) → k < length (take n bytes) → slice_get (take n bytes) k ≡ slice_get bytes k
get-take zero bytes k less = absurd (omega arith)
get-take (suc n) [] k less = refl
get-take (suc n) (b ∷ bytes) zero less = refl
get-take (suc n) (b ∷ bytes) (suc k) less = get-take n bytes k (omega arith)

length-take-most : (n : ℕ) (bytes : List ℕ) → length (take n bytes) ≤ length bytes
length-take-most zero bytes = omega arith
length-take-most (suc n) [] = omega arith
length-take-most (suc n) (b ∷ bytes) = omega (arith, length-take-most n bytes)

-- the first ones of bytes that occur
pub occurs-take : (haystack : List ℕ) (end : ℕ) (bytes : List ℕ) (at n : ℕ) → OccursBefore haystack end bytes at
    → OccursBefore haystack end (take n bytes) at
occurs-take haystack end bytes at n h =
    let short : length (take n bytes) ≤ length bytes = length-take-most n bytes in
    let fits : at + length bytes ≤ end = h.within in
    record {
      within = omega arith;
      same = λ k less. h.same k (omega arith) ∙ sym (get-take n bytes k less);
    }

module _ (haystack bytes : List ℕ) (from end : ℕ) (within : end ≤ length haystack) (onward : from ≤ end) where
  part-length : length (slice_range haystack from end) ≡ end - from
  part-length = length-between haystack from end within

  -- bytes that occur in a part occur in the haystack, before the part's end
  pub occurs-whole : (k : ℕ) → OccursAt (slice_range haystack from end) bytes k
      → OccursBefore haystack end bytes (from + k)
  occurs-whole k h =
      let fits : k + length bytes ≤ length (slice_range haystack from end) = h.fits in
      let size = part-length in
      record { within = omega arith; same = each }
    where
      each : (j : ℕ) → j < length bytes → slice_get haystack (from + k + j) ≡ slice_get bytes j
      each j less =
          let fits : k + length bytes ≤ length (slice_range haystack from end) = h.fits in
          let size = part-length in
          let e : from + (k + j) ≡ from + k + j = omega arith in
          let read : get_or haystack (from + k + j) 0 ≡ get_or bytes j 0 =
          ap (λ i. get_or haystack i 0) (sym e) ∙ sym (get_or-between haystack from end (k + j) 0 (omega arith))
          ∙ h.reads j less in
          slice_get-get_or haystack (from + k + j) 0 (omega arith) ∙ ap Some read
          ∙ sym (slice_get-get_or bytes j 0 less)

  -- and the other way round
  pub occurs-part : (k : ℕ) → OccursBefore haystack end bytes (from + k)
      → OccursAt (slice_range haystack from end) bytes k
  occurs-part k h =
      let fits : from + k + length bytes ≤ end = h.within in
      let size = part-length in
      record { fits = omega arith; reads = each }
    where
      each : (j : ℕ) → j < length bytes → get_or (slice_range haystack from end) (k + j) 0 ≡ get_or bytes j 0
      each j less =
          let fits : from + k + length bytes ≤ end = h.within in
          let e : from + (k + j) ≡ from + k + j = omega arith in
          let read : slice_get haystack (from + k + j) ≡ Some (get_or bytes j 0) =
          h.same j less ∙ slice_get-get_or bytes j 0 less in
          get_or-between haystack from end (k + j) 0 (omega arith) ∙ ap (λ i. get_or haystack i 0) e
          ∙ get_or_from_slice_get haystack (from + k + j) (get_or bytes j 0) 0 read

  -- if the bytes are nowhere in the part, they are nowhere before its end
  pub part-nowhere : FindsNeedle (slice_range haystack from end) bytes 0 None → OccursNowhere haystack end bytes from
  part-nowhere none = record {
    nowhere = λ k low h.
        let fits : k + length bytes ≤ end = h.within in
        let size = part-length in
        let e : k ≡ from + (k - from) = omega arith in
        none (k - from) (omega arith) (omega arith)
        (occurs-part (k - from) (subst (OccursBefore haystack end bytes) e h));
  }

  -- the first position in the part is the first one from its start on
  pub part-first : (k : ℕ) → FindsNeedle (slice_range haystack from end) bytes 0 (Some k)
      → IsFirstOccurrence haystack end bytes from (from + k)
  part-first k found = record {
    onward = omega arith;
    here = occurs-whole k found.1;
    before = λ j low less h.
        let e : j ≡ from + (j - from) = omega arith in
        found.0.before (j - from) (omega arith) (omega arith)
        (occurs-part (j - from) (subst (OccursBefore haystack end bytes) e h));
  }

module _ (nfa : Automaton) (from : ℕ) where
  -- bytes that were collected, and those of this many moves from a state on, are the literal of `from`
  pub record IsCollected (bytes : List ℕ) (moves state : ℕ) : Type 0 where
    pub whole : take 32 (bytes ++ bytes_from nfa moves state) ≡ literal_at nfa from
    pub short : length bytes ≤ 32
    pub below : state < length nfa.states

  first-bytes : (bytes rest : List ℕ) → length bytes ≤ 32 → rest ≡ [] → take 32 (bytes ++ rest) ≡ bytes
  first-bytes bytes rest short none = ap (λ l. take 32 (bytes ++ l)) none ∙ ap (take 32) (append-nil bytes)
      ∙ take_all 32 bytes short

  -- no move is left
  pub collected-end : (bytes : List ℕ) (moves state : ℕ) → IsCollected bytes moves state → moves ≡ 0
      → bytes ≡ literal_at nfa from
  unfolding bytes_from
  collected-end bytes moves state h none =
      sym (first-bytes bytes (bytes_from nfa moves state) h.short (ap (λ m. bytes_from nfa m state) none)) ∙ h.whole

  -- the state has no only move
  pub collected-stop : (bytes : List ℕ) (moves state : ℕ) → IsCollected bytes moves state
      → only_move (node_at nfa state) ≡ None → bytes ≡ literal_at nfa from
  unfolding bytes_from
  collected-stop bytes zero state h e = collected-end bytes zero state h refl
  collected-stop bytes (suc moves) state h e =
      sym (first-bytes bytes (bytes_from nfa (suc moves) state) h.short
      (ap (λ o. option_map_or (λ m. option_to_list m.byte ++ bytes_from nfa moves m.next) o []) e)) ∙ h.whole

  -- there is room for no more bytes
  pub collected-full : (bytes : List ℕ) (moves state : ℕ) → IsCollected bytes moves state → length bytes ≡ 32
      → bytes ≡ literal_at nfa from
  collected-full bytes moves state h full =
      sym (take-append-le 32 bytes (bytes_from nfa moves state) (omega arith) ∙ take_all 32 bytes h.short) ∙ h.whole

  move-whole : (bytes : List ℕ) (moves rest state : ℕ) (m : Move) → IsCollected bytes moves state → moves ≡ suc rest
      → only_move (node_at nfa state) ≡ Some m
      → take 32 ((bytes ++ option_to_list m.byte) ++ bytes_from nfa rest m.next) ≡ literal_at nfa from
  unfolding bytes_from
  move-whole bytes moves rest state m h count e =
      ap (take 32) (append_assoc bytes (option_to_list m.byte) (bytes_from nfa rest m.next))
      ∙ ap
      (λ o. take 32 (bytes ++ option_map_or (λ m. option_to_list m.byte ++ bytes_from nfa rest m.next) o [])) (sym e)
      ∙ ap (λ k. take 32 (bytes ++ bytes_from nfa k state)) (sym count)
      ∙ h.whole

  -- a move over a byte
  pub collected-byte : (bytes : List ℕ) (moves rest state : ℕ) (m : Move) (b : ℕ) → IsCollected bytes moves state
      → moves ≡ suc rest → only_move (node_at nfa state) ≡ Some m → m.byte ≡ Some b → length bytes < 32
      → m.next < length nfa.states → IsCollected (bytes ++ b ∷ []) rest m.next
  collected-byte bytes moves rest state m b h count e over room inside = record {
    whole = ap (λ o. take 32 ((bytes ++ option_to_list o) ++ bytes_from nfa rest m.next)) (sym over)
        ∙ move-whole bytes moves rest state m h count e;
    short = omega (arith, length-append bytes (b ∷ []));
    below = inside;
  }

  -- a move without a byte
  pub collected-pass : (bytes : List ℕ) (moves rest state : ℕ) (m : Move) → IsCollected bytes moves state
      → moves ≡ suc rest → only_move (node_at nfa state) ≡ Some m → m.byte ≡ None
      → m.next < length nfa.states → IsCollected bytes rest m.next
  collected-pass bytes moves rest state m h count e over inside = record {
    whole = ap (λ l. take 32 (l ++ bytes_from nfa rest m.next)) (sym (append-nil bytes))
        ∙ ap (λ o. take 32 ((bytes ++ option_to_list o) ++ bytes_from nfa rest m.next)) (sym over)
        ∙ move-whole bytes moves rest state m h count e;
    short = h.short;
    below = inside;
  }

over-below : (n : ℕ) (t : Transition) (m : Move) → move_over t ≡ Some m → t.next < n → m.next < n
over-below n t m e below = of (t.start == t.end) e
  where
    of : (single : Bool)
        → (if single then Some (record { byte = Some t.start; next = t.next }) else None) ≡ Some m → m.next < n
    of false e = absurd (cc e)
    of true e =
        let same : record { byte = Some t.start; next = t.next } ≡ m = cc in
        subst (λ (z : Move). z.next < n) same below

-- the move of a state leads to a state of the NFA
pub move-below : (n : ℕ) (node : Node) (m : Move) → only_move node ≡ Some m → LeadsBelow n node → m.next < n
move-below n (ByteRange t) m e below = over-below n t m e below
move-below n (Sparse (t ∷ [])) m e below = over-below n t m e (below 0 t (omega arith))
move-below n (Look look next) m e below =
    let same : record { byte = None; next = next } ≡ m = cc in subst (λ (z : Move). z.next < n) same below
move-below n (Capture next slot) m e below =
    let same : record { byte = None; next = next } ≡ m = cc in subst (λ (z : Move). z.next < n) same below
move-below n _ m e below = absurd (cc e)
