-- The answer of an unanchored search is that of the anchored search at the first start that has one, also if it has to
-- end on a boundary.
use Rattle.nfa_paths.proofs.Common.{◌≡◌, ◌↔◌, ℕ, ◌≤◌, inl, inr, false, List, [], ◌∷◌, refl, ap, arith, Some, cases_lt, Passes, Search, Automaton, Pair, PathTo, IsFirstTo, edges, edges_of, starts, IsMatch, MatchKind, Bool, LeftmostFirst, Option, IsAnswer, IsScanAnswer, is_utf8_empty, node_at}
use Rattle.nfa_paths.proofs.OneScanLemmas.{has-path, scan-of, search-of, first-scan, last-scan, match-by}
use Rattle.nfa_engines.specs.Laws.{MatchesNothing, Tells}
use Rattle.nfa_engines.specs.StartLaws.{AnswersHaveAStart, anchored_at, from_start, IsFirstStart, IsUnbound, FirstStartAnswers, FirstStartMatches, StartsAnywhere}
use Rattle.nfa_paths.proofs.SameScanLemmas.{Explored, explored}
use Rattle.nfa_engines.proofs.MovedLemmas.{moved, moved_path, ArePathsMoved}
use Rattle.nfa_engines.proofs.MovedAnswerLemmas.{IsMovable, IsMovedTo, stays}
use Rattle.nfa_paths.proofs.FirstStartLemmas.{anchored-start, heads-less, heads-order, start-anchored, start-unanchored, unanchored-start, with-starts}

-- by no distance each pair moves to itself
moved-none : (v : Pair) → moved 0 v ≡ v
moved-none v = grind arith

moved_path-none : (p : List Pair) → moved_path 0 p ≡ p
moved_path-none [] = refl
moved_path-none (v ∷ p) = grind (arith, moved-none, moved_path-none p)

-- if two lists of starts have the same paths to matches, no path moves
module _ (g : Explored) (others : List Pair)
    (to : (m : Pair) (p : List Pair) → PathTo g.edges g.starts m p → Passes g.is_match m → PathTo g.edges others m p)
    (back : (m : Pair) (p : List Pair) → PathTo g.edges others m p → Passes g.is_match m → PathTo g.edges g.starts m p)
  where
    paths-stay : ArePathsMoved 0 g (record g { starts = others })
    paths-stay = grind (arith, moved-none, moved_path-none)

module _ (nfa : Automaton) (x : Search) (free : IsUnbound nfa x) where
  -- a path of the search is one of the anchored search at its start
  anchored-path : (m : Pair) (p : List Pair) (w : PathTo (edges nfa x) (starts nfa x) m p)
      → PathTo (edges nfa (anchored_at x w.start.1)) (starts nfa (anchored_at x w.start.1)) m p
  unfolding edges_of
  anchored-path m p w =
      let at = start-unanchored nfa x free x.start w.start w.among in
      let state : w.start.0 ≡ nfa.anchored = at.state_is in
      with-starts w (anchored-start nfa x w.start.1 w.start (λ i. (state i, w.start.1)) at.within)

  -- and one of an anchored search in the span is one of the search
  unanchored-path : (i : ℕ) → x.start ≤ i → (m : Pair) (p : List Pair)
      → PathTo (edges nfa (anchored_at x i)) (starts nfa (anchored_at x i)) m p
      → PathTo (edges nfa x) (starts nfa x) m p
  unfolding edges_of
  unanchored-path i low m p w =
      let at = start-anchored nfa x i w.start w.among in
      let position : w.start.1 ≡ i = ap (λ (z : Pair). z.1) at.is in
      let high : i ≤ x.end = at.within in
      with-starts w (unanchored-start nfa x free x.start w.start
      (record { state_is = ap (λ (z : Pair). z.0) at.is; from = omega arith; within = omega arith }))

  -- a path of the search from one start is one from each other start up to its own
  path-from : (s t : ℕ) (m : Pair) (p : List Pair) (w : PathTo (edges nfa x) (starts nfa (from_start x s)) m p)
      → t ≤ w.start.1 → PathTo (edges nfa x) (starts nfa (from_start x t)) m p
  path-from s t m p w past =
      let at = start-unanchored nfa x free s w.start w.among in
      with-starts w (unanchored-start nfa x free t w.start (record {
        state_is = at.state_is;
        from = past;
        within = at.within;
      }))

  -- a search matches nothing if no anchored search in its span does
  pub nothing-at : MatchesNothing nfa x → (i : ℕ) → x.start ≤ i → MatchesNothing nfa (anchored_at x i)
  nothing-at none i low = record { no_path = λ m p w t. none.no_path m p (unanchored-path i low m p w) t }

  pub nothing-of : ((i : ℕ) → x.start ≤ i → MatchesNothing nfa (anchored_at x i)) → MatchesNothing nfa x
  nothing-of none = record {
    no_path = λ m p w t.
        let at = start-unanchored nfa x free x.start w.start w.among in
        (none w.start.1 at.from).no_path m p (anchored-path m p w) t;
  }

  module _ (s : ℕ) (first : IsFirstStart nfa x s) where
    -- an accepting path starts there or later
    pub starts-past : (m : Pair) (p : List Pair) (w : PathTo (edges nfa x) (starts nfa x) m p) → IsMatch nfa m
        → s ≤ w.start.1
    starts-past m p w t =
        elim (cases_lt w.start.1 s) [
          | inl before ↦
              let at = start-unanchored nfa x free x.start w.start w.among in
              absurd ((first.nothing w.start.1 at.from before).no_path m p (anchored-path m p w) t)
          | inr past ↦ past
        ]

    pub path-on : (m : Pair) (p : List Pair) → PathTo (edges nfa x) (starts nfa x) m p → IsMatch nfa m
        → PathTo (edges nfa x) (starts nfa (from_start x s)) m p
    path-on m p w t = path-from x.start s m p w (starts-past m p w t)

    pub path-back : (m : Pair) (p : List Pair) → PathTo (edges nfa x) (starts nfa (from_start x s)) m p → IsMatch nfa m
        → PathTo (edges nfa x) (starts nfa x) m p
    path-back m p w t =
        let past : s ≤ w.start.1 = (start-unanchored nfa x free s w.start w.among).from in
        path-from s x.start m p w (omega (arith, first.from))

    -- so starts before it may be passed over
    to-start : IsMovedTo nfa 0 x (from_start x s)
    unfolding edges_of
    to-start = record { paths = paths-stay (explored nfa x) _ path-on path-back; anywhere = free.anywhere }

    from-there : IsMovedTo nfa 0 (from_start x s) x
    unfolding edges_of
    from-there =
        record { paths = paths-stay (explored nfa (from_start x s)) _ path-back path-on; anywhere = free.anywhere }

    pub passed : {A : Type 0} {Is : Tells A} {moved : ℕ → A → A} → IsMovable Is moved
        → (kind : MatchKind) (earliest : Bool) (a : A)
        → Is nfa kind earliest x a ↔ Is nfa kind earliest (from_start x s) a
    passed movable kind earliest a = (
      stays movable nfa x (from_start x s) to-start kind earliest a,
      stays movable nfa (from_start x s) x from-there kind earliest a,
    )

    -- the first path of the anchored search there is the first of all
    pub first-answers : (p : List Pair)
        → IsFirstTo (edges nfa (anchored_at x s)) (starts nfa (anchored_at x s)) (IsMatch nfa) p
        → IsFirstTo (edges nfa x) (starts nfa x) (IsMatch nfa) p
    unfolding edges_of
    first-answers p h =
        let at = start-anchored nfa x s h.path.start h.path.among in
        record {
          end = h.end;
          path = unanchored-path s first.from h.end p h.path;
          wanted = h.wanted;
          first = λ m q w t.
              let past = starts-past m q w t in
              let less = heads-less (edges nfa x) h.path.start w.start p q h.path.head w.head in
              grind (arith, at, past, less, h.first m q, anchored-path m q w);
        }

  -- the first path of all is the first of the anchored search at its start
  module _ (p : List Pair) (h : IsFirstTo (edges nfa x) (starts nfa x) (IsMatch nfa) p) where
    first-start : IsFirstStart nfa x h.path.start.1
    first-start = record {
      from = (start-unanchored nfa x free x.start h.path.start h.path.among).from;
      nothing = λ i low less. record {
        no_path = λ m q w t.
            let at = start-anchored nfa x i w.start w.among in
            let position : w.start.1 ≡ i = ap (λ (z : Pair). z.1) at.is in
            let order : h.path.start.1 ≤ w.start.1 =
            heads-order (edges nfa x) h.path.start w.start p q h.path.head w.head
            (h.first m q (unanchored-path i low m q w) t) in
            absurd (omega arith);
      };
    }

    first-anchored : IsFirstTo (edges nfa (anchored_at x h.path.start.1)) (starts nfa (anchored_at x h.path.start.1))
        (IsMatch nfa) p
    unfolding edges_of
    first-anchored = record {
      end = h.end;
      path = anchored-path h.end p h.path;
      wanted = h.wanted;
      first = λ m q w t. h.first m q (unanchored-path h.path.start.1 first-start.from m q w) t;
    }

-- an answer with a pattern is that of its start
pub answer-start : AnswersHaveAStart LeftmostFirst false
answer-start nfa x pattern slots free h =
    let a = has-path nfa LeftmostFirst false x pattern slots h in
    let scan = scan-of nfa LeftmostFirst false x free.anywhere a.restarts (Some a.path) a.answers in
    let answers = search-of nfa LeftmostFirst false (anchored_at x scan.path.start.1) free.anywhere (Some a.path)
    (first-anchored nfa x free a.path scan) in
    let at = start-unanchored nfa x free x.start scan.path.start scan.path.among in
    (scan.path.start.1, grind (arith, first-start nfa x free a.path scan, at.within, a, answers))

-- the NFA without its UTF-8 mode, with the same paths
abbrev pub of-bytes : Automaton → Automaton
of-bytes nfa = record nfa { utf8 = false }

never-whole : (nfa : Automaton) → is_utf8_empty (of-bytes nfa) ≡ false
never-whole nfa = grind arith

pub free-of-bytes : (nfa : Automaton) (x : Search) → StartsAnywhere nfa x → IsUnbound (of-bytes nfa) x
free-of-bytes nfa x starts = grind (arith, never-whole)

pub first-of-bytes : (nfa : Automaton) (x : Search) (s : ℕ) → IsFirstStart nfa x s → IsFirstStart (of-bytes nfa) x s
unfolding node_at
first-of-bytes nfa x s first = record {
  from = first.from;
  nothing = λ i low less. record { no_path = (first.nothing i low less).no_path };
}

module _ (nfa : Automaton) (x : Search) (starts : StartsAnywhere nfa x) (s : ℕ) (first : IsFirstStart nfa x s) where
  pub scan-first : (p : List Pair) → IsScanAnswer nfa (anchored_at x s) LeftmostFirst false (Some p)
      → IsScanAnswer nfa x LeftmostFirst false (Some p)
  unfolding node_at
  scan-first p h =
      first-answers (of-bytes nfa) x (free-of-bytes nfa x starts) s (first-of-bytes nfa x s first) p h

-- it needs no restart
answer-anywhere : (nfa : Automaton) (x : Search) (s pattern : ℕ) (slots : List (Option ℕ)) → StartsAnywhere nfa x
    → IsFirstStart nfa x s → IsAnswer nfa LeftmostFirst false (anchored_at x s) (Some pattern) slots
    → IsAnswer nfa LeftmostFirst false x (Some pattern) slots
answer-anywhere nfa x s pattern slots starts first h = grind (arith, has-path, last-scan, first-scan, scan-first)

pub match-anywhere : FirstStartMatches StartsAnywhere LeftmostFirst false
match-anywhere nfa x s m starts first =
    match-by refl (λ pattern slots. answer-anywhere nfa x s pattern slots starts first)

-- so it is if it may end anywhere

starts-anywhere : (nfa : Automaton) (x : Search) → IsUnbound nfa x → StartsAnywhere nfa x
starts-anywhere nfa x free = record { unanchored = free.unanchored; prefixed = free.prefixed }

pub answer-first : FirstStartAnswers LeftmostFirst false
answer-first nfa x s pattern slots free = answer-anywhere nfa x s pattern slots (starts-anywhere nfa x free)

pub match-first : FirstStartMatches IsUnbound LeftmostFirst false
match-first nfa x s m free = match-anywhere nfa x s m (starts-anywhere nfa x free)
