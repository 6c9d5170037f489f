-- Each accepting path reads a byte of each level in turn, and what that means for a search.
use Rattle.std.proofs.lemmas.List.{get_or-set_other, get_or-set_same}
use Rattle.std.proofs.lemmas.List.Edits.{get_or-between, length-between}
use Rattle.nfa_paths.proofs.Common.{◌≡◌, ◌∙◌, ℕ, suc, ◌+◌, ◌-◌, ◌<◌, ◌≤◌, ◌⊎◌, inl, inr, List, [], ◌∷◌, length, get_or, set, slice_range, refl, sym, ap, subst, arith, All, None, Some, Bool, true, false, slice_get, slice_get_within, get_or_from_slice_get, is_some, below_more, cases_lt, Search, Automaton, Node, Pair, In, HeadIs, Linked, EndsWith, byte_at, edges, edges_of, epsilon_states, holding_at, node_at, pattern_of, reads_byte, target_on, IsMatch, ByteRange, Dense, Sparse, Transition, first_target, holds_byte, if◌then◌else◌}
use Rattle.nfa_paths.proofs.FirstStartLemmas.{start-anchored}
use Rattle.nfa_paths.proofs.MemberLemmas.{All-In}
use Rattle.nfa_paths.proofs.StartLemmas.{byte_at-within, epsilon-all}
use Rattle.nfa_paths.proofs.EdgeLemmas.{edge-is}
use Rattle.nfa_engines.specs.Laws.{MatchesNothing, MatchesSomething}
use Rattle.nfa_engines.specs.StartLaws.{anchored_at, IsFirstStart, IsUnbound}
use Rattle.nfa_engines.proofs.StartAnswerLemmas.{nothing-of}
use Rattle.regex_literal.specs.Levels.{FitsLevels}
use Rattle.nfa_facts.specs.declared.literal.levels.Levels.{Levels}
use Rattle.nfa_facts.specs.Levels.{AdmitsAt, AdmitsMatches, AdmitsNoneBefore, AdmitsNoneFrom, Grows, Has, HasBytes, IsFilled}
use Rattle.nfa_facts.specs.Reached.{AddsTo, HasTargets}
use Rattle.nfa_facts.proofs.PrefixLemmas.{byte-read}
use Rattle.nfa_facts.proofs.ReachedLemmas.{HasOtherTargets-added, In-added, each-in, get-added}

-- paths

module _ (nfa : Automaton) (x : Search) where
  -- a path leads from the state, at the position, to a match
  pub record LeadsOn (s at : ℕ) : Type 0 where
    pub end : Pair
    pub path : List Pair
    pub head : HeadIs (s, at) path
    pub linked : Linked (edges nfa x) path
    pub ends : EndsWith end path
    pub accepts : IsMatch nfa end
    pub within : at ≤ x.end

  -- the level has the byte at the position
  pub record HasByteAt (level : List Bool) (at : ℕ) : Type 0 where
    pub byte : ℕ
    pub read : byte_at x at ≡ Some byte
    pub has : Has level byte

  module _ (here nexts : List ℕ) (level : List Bool) (small : All (λ b. b < 256) x.haystack) where
    -- the level has the byte, and a path leads on from one of the states that are next
    pub record ReadsLevel (at : ℕ) : Type 0 where
      pub byte : HasByteAt level at
      pub state : ℕ
      pub there : In state nexts
      pub onward : LeadsOn state (at + 1)

    -- the pair follows after the byte at the position
    record ReadsTo (at : ℕ) (w : Pair) : Type 0 where
      byte : HasByteAt level at
      onward : w.1 ≡ at + 1
      there : In w.0 nexts

    -- or without one
    abbrev Step : ℕ → Pair → Type 0
    Step at w = ReadsTo at w ⊎ ((w.1 ≡ at) × In w.0 here)

    small-read : (at b : ℕ) → byte_at x at ≡ Some b → b < 256
    small-read at b e =
        let read : slice_get x.haystack at ≡ Some b = byte-read x at b e in
        let inside : at < length x.haystack = slice_get_within x.haystack at b read in
        subst (λ c. c < 256) (get_or_from_slice_get x.haystack at b b read) (small at b inside)

    edge-step : (node : Node) (at : ℕ) (w : Pair) → IsFilled here nexts level node → In w (edges_of x node at)
        → Step at w
    edge-step node at w h i =
        elim (edge-is x node at w i) [
          | inl stays ↦
              let states = epsilon_states (holding_at x.haystack at) node in
              let all = epsilon-all (λ s. In s here) (holding_at x.haystack at) node h.without in
              inr (stays.0, All-In (λ s. In s here) states all w.0 stays.1)
          | inr over ↦
              inl (record {
                byte = record {
                  byte = over.byte;
                  read = over.is;
                  has = h.reads.bytes over.byte w.0 (small-read at over.byte over.is) over.target;
                };
                onward = over.next;
                there = h.over.others over.byte w.0 (λ never. absurd (cc never)) over.target;
              })
        ]

    -- each path from one of the states to a match reads a byte of the level first
    pub path-reads : ((s : ℕ) → In s here → IsFilled here nexts level (node_at nfa s)) → (s at : ℕ) (end : Pair)
        (p : List Pair) → In s here → HeadIs (s, at) p → Linked (edges nfa x) p → EndsWith end p → IsMatch nfa end
        → at ≤ x.end → ReadsLevel at
    path-reads filled s at end [] there head linked ends accepts within = absurd head
    path-reads filled s at end (v ∷ []) there head linked ends accepts within =
        let same : end ≡ (s, at) = sym ends ∙ head in
        let is : is_some (pattern_of (node_at nfa s)) ≡ true = subst (λ (z : Pair). IsMatch nfa z) same accepts in
        let plain : pattern_of (node_at nfa s) ≡ None = (filled s there).plain in
        absurd (cc (is, ap is_some plain))
    path-reads filled s at end (v ∷ (w ∷ p)) there head linked ends accepts within =
        elim (edge-step (node_at nfa s) at w (filled s there)
        (subst (λ (z : Pair). In w (edges nfa x z)) head linked.0)) [
          | inl step ↦
              let next : w.1 ≡ at + 1 = step.onward in
              let inside : at < x.end = byte_at-within x at step.byte.byte step.byte.read in
              record {
                byte = step.byte;
                state = w.0;
                there = step.there;
                onward = subst (LeadsOn w.0) next (record {
                  end = end;
                  path = w ∷ p;
                  head = refl;
                  linked = linked.1;
                  ends = ends;
                  accepts = accepts;
                  within = omega arith;
                });
              }
          | inr stays ↦
              let same : w.1 ≡ at = stays.0 in
              subst ReadsLevel stays.0
              (path-reads filled w.0 w.1 end (w ∷ p) stays.1 refl linked.1 ends accepts (omega arith))
        ]

-- levels

-- An accepting path that starts at the position reads a byte of each of this many levels in turn, and then is at one of
-- the states.
pub record Climbs (nfa : Automaton) (x : Search) (levels : List (List Bool)) (count : ℕ) (here : List ℕ) (at : ℕ)
    : Type 0 where
  pub each : (j : ℕ) → j < count → HasByteAt nfa (anchored_at x at) (get_or levels j []) (at + j)
  pub state : ℕ
  pub there : In state here
  pub onward : LeadsOn nfa (anchored_at x at) state (at + count)

-- each one does
pub record AllClimb (nfa : Automaton) (levels : List (List Bool)) (count : ℕ) (here : List ℕ) : Type 0 where
  pub climbs : (x : Search) (at : ℕ) → All (λ b. b < 256) x.haystack → MatchesSomething nfa (anchored_at x at)
      → Climbs nfa x levels count here at

module _ (nfa : Automaton) where
  -- no level is read at first
  pub climb-none : (levels : List (List Bool)) (here : List ℕ) → In nfa.anchored here → AllClimb nfa levels 0 here
  climb-none levels here there = record {
    climbs = λ x at small some.
        let start = start-anchored nfa x at some.path.start some.path.among in
        let head : HeadIs (nfa.anchored, at) some.along =
        subst (λ (z : Pair). HeadIs z some.along) start.is some.path.head in
        let stays : at ≡ at + 0 = omega arith in
        record {
          each = λ j less. absurd (omega arith);
          state = nfa.anchored;
          there = there;
          onward = subst (LeadsOn nfa (anchored_at x at) nfa.anchored) stays (record {
            end = some.end;
            path = some.along;
            head = head;
            linked = some.path.linked;
            ends = some.path.ends;
            accepts = some.accepts;
            within = start.within;
          });
        };
  }

  -- one level more is read
  pub climb-more : (levels : List (List Bool)) (level : List Bool) (count : ℕ) (old here nexts : List ℕ)
      → count < length levels → AllClimb nfa levels count old → AddsTo old here
      → ((s : ℕ) → In s here → IsFilled here nexts level (node_at nfa s))
      → AllClimb nfa (set levels count level) (count + 1) nexts
  climb-more levels level count old here nexts inside all adds filled = record {
    climbs = λ x at small some.
        let y = anchored_at x at in
        let c = all.climbs x at small some in
        let on = c.onward in
        let r = path-reads nfa y here nexts level small filled c.state (at + count) on.end on.path
        (In-added adds c.state c.there) on.head on.linked on.ends on.accepts on.within in
        let further : at + count + 1 ≡ at + (count + 1) = omega arith in
        record {
          each = below_more (λ j. HasByteAt nfa y (get_or (set levels count level) j []) (at + j)) count
              (λ j less.
              let other : ¬ (j ≡ count) = λ same. absurd (omega (arith, same)) in
              subst (λ l. HasByteAt nfa y l (at + j)) (sym (get_or-set_other levels count j level [] other))
              (c.each j less))
              (subst (λ l. HasByteAt nfa y l (at + count)) (sym (get_or-set_same levels count level [] inside)) r.byte);
          state = r.state;
          there = r.there;
          onward = subst (LeadsOn nfa y r.state) further r.onward;
        };
  }

  -- so these levels fit where an anchored search has an accepting path
  pub climb-fits : (levels part : List (List Bool)) (count : ℕ) (here : List ℕ) → length part ≡ count
      → ((t : ℕ) → t < count → get_or part t [] ≡ get_or levels t []) → AllClimb nfa levels count here
      → (x : Search) (at : ℕ) → x.end ≤ length x.haystack → All (λ b. b < 256) x.haystack
      → MatchesSomething nfa (anchored_at x at) → FitsLevels (slice_range x.haystack 0 x.end) part at
  climb-fits levels part count here many same all x at fits small matches =
      let c = all.climbs x at small matches in
      let size : length (slice_range x.haystack 0 x.end) ≡ x.end - 0 = length-between x.haystack 0 x.end fits in
      let high : at + count ≤ x.end = c.onward.within in
      record {
        fits = omega (arith, size, many);
        each = λ t less.
            let below : t < count = omega (arith, many) in
            let h = c.each t below in
            let inside : at + t < x.end = omega arith in
            let there : 0 + (at + t) ≡ at + t = omega arith in
            let byte : get_or (slice_range x.haystack 0 x.end) (at + t) 0 ≡ h.byte =
            get_or-between x.haystack 0 x.end (at + t) 0 (omega (arith, inside))
            ∙ ap (λ i. get_or x.haystack i 0) there
            ∙ get_or_from_slice_get x.haystack (at + t) h.byte 0
            (byte-read (anchored_at x at) (at + t) h.byte h.read) in
            rw (same t below, byte) h.has;
      }

  -- and a search for them admits where it has one
  pub climb-admits : (levels part : List (List Bool)) (count : ℕ) (here : List ℕ) (found : Levels)
      → length part ≡ count → ((t : ℕ) → t < count → get_or part t [] ≡ get_or levels t [])
      → AllClimb nfa levels count here
      → ((hay : List ℕ) (k : ℕ) → FitsLevels hay part k → AdmitsAt found hay k) → AdmitsMatches nfa found
  climb-admits levels part count here found many same all admits = record {
    admits = λ x at fits small matches.
        admits (slice_range x.haystack 0 x.end) at
        (climb-fits levels part count here many same all x at fits small matches);
  }

-- bytes of transitions

-- a level with the bytes of each transition has those of all
pub bytes-all : (level : List Bool) (ts : List Transition)
    → All (λ t. (b : ℕ) → holds_byte t b ≡ true → Has level b) ts → HasBytes level (Sparse ts)
bytes-all level ts all = record { bytes = λ b t small e. first ts all b t e }
  where
    first : (ts : List Transition) → All (λ t. (b : ℕ) → holds_byte t b ≡ true → Has level b) ts
        → (b u : ℕ) → first_target ts b ≡ Some u → Has level b
    first [] all b u e = absurd (cc e)
    first (t ∷ ts) all b u e =
        let here : (b : ℕ) → holds_byte t b ≡ true → Has level b = all 0 t (omega arith) in
        (elim (holds_byte t b) as (λ h. holds_byte t b ≡ h → (if h then Some t.next else first_target ts b) ≡ Some u
        → Has level b) [
          | true ↦ λ holds s. here b holds
          | false ↦ λ no s. first ts (λ k d h. all (suc k) d (omega arith)) b u s
        ]) refl e

-- filled states

-- what was filled stays so
pub IsFilled-more : {a b c d : List ℕ} {l m : List Bool} {node : Node} → AddsTo a b → AddsTo c d → Grows l m
    → IsFilled a c l node → IsFilled b d m node
IsFilled-more f g grows h = record {
  plain = h.plain;
  without = λ k d less. In-added f _ (h.without k d less);
  over = HasOtherTargets-added g h.over;
  reads = record { bytes = λ b t small e. grows.still b (h.reads.bytes b t small e) };
}

module _ (here nexts : List ℕ) (level : List Bool) where
  -- a state that reads a byte
  pub filled-over : (node : Node) → reads_byte node ≡ true → HasTargets nexts None node → HasBytes level node
      → IsFilled here nexts level node
  filled-over (ByteRange t) is h b = record {
    plain = refl;
    without = λ k d less. absurd (omega arith);
    over = h.over;
    reads = b;
  }
  filled-over (Sparse ts) is h b = record {
    plain = refl;
    without = λ k d less. absurd (omega arith);
    over = h.over;
    reads = b;
  }
  filled-over (Dense ts) is h b = record {
    plain = refl;
    without = λ k d less. absurd (omega arith);
    over = h.over;
    reads = b;
  }
  filled-over _ is h b = absurd (cc is)

  -- and one that does not
  pub filled-without : (node : Node) → pattern_of node ≡ None → reads_byte node ≡ false → HasTargets here None node
      → IsFilled here nexts level node
  filled-without node plain not h = record {
    plain = plain;
    without = h.without;
    over = record { others = λ b t n e. absurd (no-target node not b t e) };
    reads = record { bytes = λ b t small e. absurd (no-target node not b t e) };
  }
    where
      no-target : (node : Node) → reads_byte node ≡ false → (b t : ℕ) → target_on node b ≡ Some t → ⊥
      no-target (ByteRange t) not b u e = cc not
      no-target (Sparse ts) not b u e = cc not
      no-target (Dense ts) not b u e = cc not
      no-target _ not b u e = cc e

module _ (nfa : Automaton) where
  -- one state more is filled
  pub filled-step : (a b c d : List ℕ) (l m : List Bool) (done s : ℕ) → done < length a → get_or a done 0 ≡ s
      → AddsTo a b → AddsTo c d → Grows l m
      → ((k : ℕ) → k < done → IsFilled a c l (node_at nfa (get_or a k 0))) → IsFilled b d m (node_at nfa s)
      → (k : ℕ) → k < done + 1 → IsFilled b d m (node_at nfa (get_or b k 0))
  filled-step a b c d l m done s inside is f g grows before here =
      below_more (λ k. IsFilled b d m (node_at nfa (get_or b k 0))) done
      (λ k h.
      let within : k < length a = omega arith in
      rw (get-added f k within) (IsFilled-more f g grows (before k h)))
      (rw (get-added f done inside, is) here)

  -- all are
  pub filled-all : (a c : List ℕ) (l : List Bool) (done : ℕ) → done ≡ length a
      → ((k : ℕ) → k < done → IsFilled a c l (node_at nfa (get_or a k 0)))
      → (s : ℕ) → In s a → IsFilled a c l (node_at nfa s)
  filled-all a c l done all before =
      each-in (λ s. IsFilled a c l (node_at nfa s)) a (λ k less. before k (omega (arith, all)))

-- starts

module _ (nfa : Automaton) (x : Search) (levels : Levels) (admits : AdmitsMatches nfa levels)
    (fits : x.end ≤ length x.haystack) (small : All (λ b. b < 256) x.haystack) where
  -- no match starts where the levels do not admit
  nothing-there : (at : ℕ) → (¬ (MatchesSomething nfa (anchored_at x at))) → MatchesNothing nfa (anchored_at x at)
  nothing-there at none = record {
    no_path = λ m p w t. none (record { end = m; along = p; path = w; accepts = t });
  }

  pub first-to-admitted : (from at : ℕ) → IsFirstStart nfa x from → AdmitsNoneBefore levels x.haystack from x.end at
      → IsFirstStart nfa x at
  first-to-admitted from at first lacks =
      let low : x.start ≤ from = first.from in
      let onward : from ≤ at = lacks.onward in
      record {
        from = omega arith;
        nothing = λ i start less.
            elim (cases_lt i from) [
              | inl before ↦ first.nothing i start before
              | inr past ↦ nothing-there i (λ some. lacks.none i past less (admits.admits x i fits small some))
            ];
      }

  pub nothing-admitted : IsUnbound nfa x → (from : ℕ) → IsFirstStart nfa x from
      → AdmitsNoneFrom levels x.haystack from x.end → MatchesNothing nfa x
  nothing-admitted free from first lacks =
      nothing-of nfa x free
      (λ i start.
      elim (cases_lt i from) [
        | inl before ↦ first.nothing i start before
        | inr past ↦ nothing-there i
            (λ some.
            let on = start-anchored nfa x i some.path.start some.path.among in
            lacks.none i past on.within (admits.admits x i fits small some))
      ])
