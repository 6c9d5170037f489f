-- A leftmost first answer starts at the least start of its end, and is that of the search cut to its span.
use Rattle.nfa_paths.proofs.Common.{◌≡◌, ◌∙◌, ℕ, ◌≤◌, ◌⊎◌, inl, inr, true, false, List, [], ◌∷◌, refl, sym, ap, arith, le-ltb, lt-ltb, Some, cases_lt, Search, Anchored, Automaton, Node, Pair, In, Earlier, BeforeAfter, ComesBefore, EndsWith, HeadIs, Linked, PathTo, IsFirstTo, rests, edges, edges_of, node_at, start_state, starts, IsMatch, raised, LeftmostFirst}
use Rattle.nfa_paths.proofs.OneScanLemmas.{first-scan, has-path, last-scan}
use Rattle.nfa_paths.proofs.ScanAnswerLemmas.{edges-rise, starts-from, starts-within}
use Rattle.nfa_paths.proofs.StartLemmas.{resting-edges}
use Rattle.nfa_engines.specs.SpanLaws.{cut_to, AnswersHaveASpan, EndMayBeCut, IsLeastStart, MayCut, SearchMayBeCut, SpanMayBeCut, StartIsLeast, StartIsLeastOfAll}
use Rattle.nfa_engines.specs.SpanLaws.MayCut.{same}
use Rattle.nfa_paths.proofs.FirstStartLemmas.{ends-one, heads-one, heads-order, is_tied, of-start, path-order, start-of, with-edges, StartOf}

-- the start

-- The first path to some matches starts at the least start of its end, if they are all that end there.
module _ (nfa : Automaton) (x : Search) {p : List Pair} (v m : Pair) (head : HeadIs v p) (ends : EndsWith m p)
    {Wanted : Pair → Type 0} (h : IsFirstTo (edges nfa x) (starts nfa x) Wanted p) where
  least-start : IsMatch nfa h.end → ((n : Pair) → IsMatch nfa n → n.1 ≡ h.end.1 → Wanted n)
      → IsLeastStart nfa x v.1 m.1
  least-start accepts wanted =
      let last : h.end.1 ≡ m.1 = ap (λ (z : Pair). z.1) (ends-one h.end m p h.path.ends ends) in
      record {
        matches = record { end = h.end; along = p; path = h.path; accepts = accepts };
        start_is = ap (λ (z : Pair). z.1) (heads-one h.path.start v p h.path.head head);
        end_is = last;
        least = λ n q w t at.
            heads-order (edges nfa x) v w.start p q head w.head (h.first n q w (wanted n t (at ∙ sym last)));
      }

pub least-first : StartIsLeast LeftmostFirst false
least-first nfa x p v m h head ends = least-start nfa x v m head ends h h.wanted (λ n t at. t)

pub least-earliest : StartIsLeast LeftmostFirst true
least-earliest nfa x p v m h head ends = least-start nfa x v m head ends h.2 h.2.wanted.wanted
    (λ n t at. record { wanted = t; at = at ∙ h.2.wanted.at })

-- of all accepting paths
pub least-of-all : StartIsLeastOfAll LeftmostFirst false
least-of-all nfa x p v m q h head w t = heads-order (edges nfa x) v w.start p q head w.head (h.first m q w t)

-- fewer edges

module _ (edges fewer : Pair → List Pair) (agree : (v : Pair) → (fewer v ≡ edges v) ⊎ (fewer v ≡ [])) where
  fewer-in : (v w : Pair) → In w (fewer v) → In w (edges v)
  fewer-in v w i = grind (arith, agree v)

  fewer-linked : (p : List Pair) → Linked fewer p → Linked edges p
  fewer-linked [] l = l
  fewer-linked (v ∷ []) l = l
  fewer-linked (v ∷ (w ∷ p)) l = (fewer-in v w l.0, fewer-linked (w ∷ p) l.1)

  fewer-earlier : (v a b : Pair) → In a (fewer v) → Earlier (edges v) a b → Earlier (fewer v) a b
  fewer-earlier v a b i h = grind (arith, agree v)

  fewer-after : (v : Pair) (p q : List Pair) → Linked fewer (v ∷ p) → BeforeAfter edges v p q
      → BeforeAfter fewer v p q
  fewer-after v [] q l h = h
  fewer-after v (a ∷ p) [] l h = h
  fewer-after v (a ∷ p) (b ∷ q) l h = grind (arith, fewer-earlier, fewer-after a p q)

  fewer-before : (p q : List Pair) → Linked fewer p → ComesBefore edges p q → ComesBefore fewer p q
  fewer-before = grind (arith, fewer-after)

  -- a first path that is left is the first of those that are left
  fewer-first : {begins others : List Pair} {Wanted : Pair → Type 0} {p : List Pair}
      → ((m : Pair) (q : List Pair) → PathTo fewer others m q → PathTo edges begins m q)
      → (h : IsFirstTo edges begins Wanted p) → Linked fewer p → In h.path.start others
      → IsFirstTo fewer others Wanted p
  fewer-first {p = p} back h linked among = record {
    end = h.end;
    path = with-edges h.path linked among;
    wanted = h.wanted;
    first = λ m q w t.
        elim (h.first m q (back m q w) t) [ inl e ↦ inl e | inr c ↦ inr (fewer-before p q linked c) ];
  }

-- the starts

cut-state : (nfa : Automaton) (a b : Anchored) → MayCut a b → start_state nfa b ≡ start_state nfa a
cut-state = grind arith

cut-tied : (nfa : Automaton) (a b : Anchored) → MayCut a b → is_tied nfa a ≡ true → is_tied nfa b ≡ true
cut-tied = grind arith

-- the cut

module _ (nfa : Automaton) (x : Search) (s e : ℕ) (anchored : Anchored) (within : e ≤ x.end) where
  abbrev cut : Search
  cut = cut_to x s e anchored

  cut-node : (node : Node) (at : ℕ)
      → (edges_of cut node at ≡ edges_of x node at)
      ⊎ ((edges_of cut node at ≡ []) × ((rests node ≡ true) × (e ≤ at)))
  unfolding edges_of
  cut-node = grind (arith, cases_lt, lt-ltb, le-ltb, resting-edges)

  cut-agree : (v : Pair) → (edges nfa cut v ≡ edges nfa x v) ⊎ (edges nfa cut v ≡ [])
  cut-agree v = grind (arith, cut-node)

  -- an edge that leads to no position after the end is left
  cut-in : (v w : Pair) → In w (edges nfa x v) → w.1 ≤ e → In w (edges nfa cut v)
  cut-in v w i low = grind (arith, cut-node (node_at nfa v.0) v.1, edges-rise nfa x v w)

  cut-linked : (m : Pair) → m.1 ≤ e → (p : List Pair) → Linked (edges nfa x) p → EndsWith m p
      → Linked (edges nfa cut) p
  cut-linked m high [] l ends = l
  cut-linked m high (v ∷ []) l ends = l
  cut-linked m high (v ∷ (w ∷ p)) l ends =
      grind (arith, cut-in, path-order nfa x w m (w ∷ p) refl l.1 ends, cut-linked m high (w ∷ p))

-- the path of a scan

module _ (nfa : Automaton) (x : Search) {anchored : Anchored} (may : MayCut x.anchored anchored) {p : List Pair}
    {Wanted : Pair → Type 0} (h : IsFirstTo (edges nfa x) (starts nfa x) Wanted p) where
  -- the span from s to e has the path, and if the cut search has one start, the path begins there
  record IsSpan (s e : ℕ) : Type 0 where
    low : x.start ≤ s
    past : s ≤ h.path.start.1
    near : is_tied nfa anchored ≡ true → h.path.start.1 ≡ s
    last : h.end.1 ≡ e

  -- the path's own span does
  own-span : (v m : Pair) → HeadIs v p → EndsWith m p → IsSpan v.1 m.1
  own-span v m head ends = grind (arith, heads-one, starts-from, ends-one)

  module _ {s e : ℕ} (at : IsSpan s e) where
    abbrev part : Search
    part = cut_to x s e anchored

    -- it is in the span of the search
    inside : (h.path.start.1 ≤ e) × (e ≤ x.end)
    inside = grind (arith, path-order, starts-within)

    start-here : StartOf nfa x h.path.start
    start-here = start-of nfa x h.path.start h.path.among

    -- a path of the cut search is one of the search, from a start that is not new
    cut-back : (n : Pair) (q : List Pair) → PathTo (edges nfa part) (starts nfa part) n q
        → PathTo (edges nfa x) (starts nfa x) n q
    cut-back n q w =
        let r = start-of nfa part w.start w.among in
        with-edges w (fewer-linked (edges nfa x) (edges nfa part) (cut-agree nfa x s e anchored inside.1) q w.linked)
        (of-start nfa x w.start (record {
          state_is = sym (cut-state nfa x.anchored anchored may) ∙ r.state_is;
          from = omega (arith, r.from, at.low);
          within = omega (arith, r.within, inside.1);
          tied = λ t.
              let here = start-here.tied t in
              let there = r.tied (cut-tied nfa x.anchored anchored may t) in
              omega (arith, here, there, at.past, at.low);
        }))

    -- the start of the path is left, so it is the first
    cut-first : IsFirstTo (edges nfa part) (starts nfa part) Wanted p
    cut-first =
        let last : h.end.1 ≡ e = at.last in
        fewer-first (edges nfa x) (edges nfa part) (cut-agree nfa x s e anchored inside.1) cut-back h
        (cut-linked nfa x s e anchored inside.1 h.end (omega arith) p h.path.linked h.path.ends)
        (of-start nfa part h.path.start (record {
          state_is = cut-state nfa x.anchored anchored may ∙ start-here.state_is;
          from = at.past;
          within = inside.0;
          tied = at.near;
        }))

pub span-earliest : SpanMayBeCut LeftmostFirst true
span-earliest nfa x anchored p v m may h head ends =
    let at = own-span nfa x may h.2 v m head ends in
    let cut_path = cut-first nfa x may h.2 at in (
      h.0,
      record { is_end = grind (arith, cut_path); least = λ n q w t. h.1.least n q (cut-back nfa x may h.2 at n q w) t },
      cut_path,
    )

pub span-cut : SpanMayBeCut LeftmostFirst false
span-cut nfa x anchored p v m may h head ends = cut-first nfa x may h (own-span nfa x may h v m head ends)

pub end-cut : EndMayBeCut LeftmostFirst false
end-cut nfa x p m h ends =
    let begin = start-of nfa x h.path.start h.path.among in
    cut-first nfa x same h {s = x.start} {e = m.1} (grind (arith, begin, ends-one h.end m p h.path.ends ends))

-- A search. Whether a path ends on a boundary depends on the haystack only.

pub search-cut : SearchMayBeCut LeftmostFirst false
search-cut nfa x anchored restarts p v m may h head ends =
    let k = last-scan nfa LeftmostFirst false x restarts p h in
    first-scan nfa LeftmostFirst false (cut_to x v.1 m.1 anchored) (Some p)
    (span-cut nfa (raised x restarts) anchored p v m may k.scan head ends) k.whole

-- the answer of a search

pub answer-span : AnswersHaveASpan LeftmostFirst false
answer-span nfa x anchored pattern slots may h =
    let a = has-path nfa LeftmostFirst false x pattern slots h in
    let scan = (last-scan nfa LeftmostFirst false x a.restarts a.path a.answers).scan in
    let cut = search-cut nfa x anchored a.restarts a.path scan.path.start scan.end may a.answers scan.path.head
    scan.path.ends in
    grind (arith, a, scan, cut)
