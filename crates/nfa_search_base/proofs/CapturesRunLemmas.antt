-- The calls of an iterator by an engine give the matches, or the captures, of the engine's NFA.
use Rattle.std.specs.Iterator.Runs.{EachRunFrom, YieldsRun, ItemsMapTo}
use Rattle.nfa_paths.proofs.InsideLemmas.{slots-within}
use Rattle.nfa_search_base.specs.Common.{SameButStart, CapturesGiven, Row, row_found, row_of, row_span, IsRow, AnswersRow, AreFirstCaptures, AreAllCaptures, HasGroups, match_in, CapturesInside, CapturesMemory, MatchesAreFirst, RowsAreFirst, MatchesAreAll, RowsAreAll, AreFirstMatches, AreMatches, IsStep, IsSlotInside, steps_iter_state, IterState, Answer, fresh, Yields, SearchError, Memory, Steps, AnswersMatch, AreDisjoint, IsInside, AreFirst, AreAll, ItemsGiven, MatchesGiven, RunsGive, span_of}
use Rattle.nfa_search_base.proofs.CapturesLemmas.{row-lies, rows-first_matches, rows-matches}
use Rattle.nfa_search_base.proofs.EngineLemmas.{SearchesAs, SearchesOf, answers_as, step-may, step-stays}
use Rattle.nfa_search_base.proofs.ItemLemmas.{ItemsOf, StepsBy, copies_of, copy-of, ShellOf, same-items, items_as}
use Rattle.nfa_search_base.proofs.ListLemmas.{matches-disjoint, step-asked, step-lies, items-view, matches-rest, matches-unique}
use Rattle.nfa_search_base.proofs.OkItemLemmas.{GoesOnIn, OkedAs, ResultsOf, next-clean, last-clean, oks-given, values-hold, errors-memory}
use Rattle.nfa_search_base.proofs.RunLemmas.{Begins, given-as, items-given, AnswersOf}
use Rattle.nfa_search_base.proofs.SpanLemmas.{spans-inside}
use Rattle.nfa_search_base.proofs.StepLemmas.{chosen}
use Rattle.std.proofs.iter.runs.Sources.{lists}
use Rattle.nfa_paths.proofs.Common.{◌≡◌, ℕ, ◌≤◌, inl, inr, Bool, refl, ap, subst, Option, None, Some, Result, Ok, Err, List, [], ◌∷◌, map, arith, All, IfOk, All-nil, All-cons, All-weaker, Found, Search, Captured, MatchKind, Automaton, ◌∙◌, ◌++◌, length, length-append, found_of, Match}

abbrev Caught : Type 0
Caught = Result Captured SearchError

-- the matches of captures are those of their rows
found-rows : (cs : List Captured) → map row_found (map row_of cs) ≡ map match_in cs
found-rows [] = refl
found-rows (c ∷ cs) = ap (λ (l : List Found). match_in c ∷ l) (found-rows cs)

-- a slot in a span is in a wider one
wider : (x y : Search) → x.start ≤ y.start → y.end ≡ x.end → (slot : Option ℕ) → IsSlotInside y slot
    → IsSlotInside x slot
wider x y from to None h = tt
wider x y from to (Some k) h = (omega (arith, h.0), omega (arith, h.1))

-- what each item is while the iterator is `Good`, all items are
module _ {T R : Type 0} (steps : T → Option R → T → Type 0) (Good : T → Type 0) (Holds : R → Type 0)
    (step : (s : T) (r : R) (t : T) → Good s → steps s (Some r) t → Holds r × Good t) where
  all-hold : (xs : List R) (s t : T) → Good s → Yields steps s xs t → All Holds xs
  all-hold [] s t good ran = All-nil Holds
  all-hold (x ∷ xs) s t good ran =
      let k = step s x ran.0 good ran.1 in
      All-cons Holds x xs k.0 (all-hold xs ran.0 t k.1 ran.2)

  pub runs-hold : (s : T) → Good s → EachRunFrom steps s (λ p. All Holds p.items)
  unfolding YieldsRun
  runs-hold s good = λ p seen from.
      let ran = p.gave.0 in all-hold p.items s ran.0 good (subst (λ (q : T). Yields steps q p.items ran.0) from ran.1)

-- What an engine e promises of the searches like x, in whose iteration the state holds captures: the rows of
-- an NFA, or errors.
pub record RowsOf {E C S : Type 0} (searches : SearchesOf E C S Row) (captures : S → Captured) (e : E) (x : Search)
    : Type 1 where
  pub nfa : Automaton
  pub kind : MatchKind
  pub earliest : Bool
  pub tells : Search → Answer Row → Type 0
  pub given : (t : Search) (a : Answer Row) → SameButStart x t → searches.Tells e t a → tells t a
  pub row : (t : Search) (o : Option Row) → tells t (Ok o) → AnswersRow nfa kind earliest t (Ok o)
  -- the captures of an iteration that may search have the groups of the NFA
  pub groups : (s : S) (t : Search) → SearchesAs searches e s → searches.May s t → HasGroups nfa (captures s)

module _ {E C S : Type 0} {searches : SearchesOf E C S Row} {captures : S → Captured} {e : E} {x : Search}
    (rows : RowsOf searches captures e x) where
  abbrev copies : ItemsOf S Row Captured
  copies = copies_of captures

  -- a call of the steps
  abbrev pub CapturesSteps : Steps S → Option Caught → Steps S → Type 0
  CapturesSteps = StepsBy copies searches.asks

  abbrev Rows : Search → Answer Row → Type 0
  Rows = AnswersRow rows.nfa rows.kind rows.earliest

  -- without an error these are rows, whose matches are in the span
  abbrev pub results_of : ResultsOf row_span
  results_of = record {
    tells = rows.tells;
    clean = Rows;
    ok = rows.row;
    lies = row-lies rows.nfa rows.kind rows.earliest;
  }

  -- the captures of a step are in the span
  step-inside : (w : IterState) (c : Captured) → GoesOnIn copies results_of x w
      → IsStep row_span Rows w (Ok (Some (row_of c))) → CapturesInside x c
  step-inside w c in_span step =
      let asked = step-asked row_span Rows w (Ok (Some (row_of c))) step in
      let at : Search = record w.at { start = asked.0 } in
      let row : IsRow rows.nfa rows.kind rows.earliest at (row_of c) = asked.3 in
      let k = step-lies row_span Rows results_of.lies w (row_of c) step in
      let slots : All (IsSlotInside x) c.slots
      = All-weaker (IsSlotInside at) (IsSlotInside x) (wider x at (omega (arith, asked.1, in_span.0)) in_span.1) c.slots
      (slots-within rows.nfa rows.kind rows.earliest at c.pattern c.slots row.answer) in
      record {
        is_match = row.is_match;
        inside = record { from = omega (arith, in_span.0, k.0); ordered = k.1; to = omega (arith, in_span.1, k.2) };
        slots = slots;
        spans = spans-inside x c slots;
      }

  module _ {T : Type 0} (shell : ShellOf CapturesSteps (λ (i : Caught). i) T) where
    -- an iterator of e that may search
    abbrev Holds : T → Type 0
    Holds q = searches.May (shell.inner q).backend (steps_iter_state (shell.inner q)).at
        × SearchesAs searches e (shell.inner q).backend

    call-groups : (p : T) (r : Caught) (q : T) → Holds p → shell.calls p (Some r) q
        → IfOk r (HasGroups rows.nfa) × Holds q
    call-groups p r q holds st = (of r (shell.is p (Some r) q st), left)
      where
        left : Holds q
        left = (
          step-may searches copies (shell.inner p) (Some r) (shell.inner q) (shell.is p (Some r) q st) holds.0,
          step-stays searches copies e (shell.inner p) (Some r) (shell.inner q) (shell.is p (Some r) q st) holds.1,
        )

        of : (r : Caught) → CapturesSteps (shell.inner p) (Some r) (shell.inner q) → IfOk r (HasGroups rows.nfa)
        of (Err error) step = tt
        of (Ok d) step = elim (chosen (shell.inner p).done step) [
          | inl k ↦ let never : (let z : Option Caught = Some (Ok d) in z ≡ None) = k.1.0 in cc
          | inr k ↦
              rw (copy-of (captures (shell.inner q).backend) k.1.answer d k.1.item)
              (rows.groups (shell.inner q).backend (steps_iter_state (shell.inner q)).at left.1 left.0)
        ]

    module _ (s : T) (begins : Begins (SearchesAs searches e) x (shell.inner s)) where
      abbrev First : List Caught → Type 0
      First xs = AreFirstCaptures rows.tells x xs

      abbrev Whole : List Caught → Type 0
      Whole xs = AreAllCaptures rows.tells x xs

      caught : ItemsGiven shell.calls First Whole s
      caught = given-as shell.calls
          (items-given copies (answers_as searches e x rows.tells rows.given) shell s begins)
          (λ xs h. record { come = rw (same-items xs) at h }) (λ xs h. record { come = rw (same-items xs) at h })

      -- the only error is `Memory`, if no search has another
      pub captures-memory
          : ((t : Search) (error : SearchError) → x.start ≤ t.start → t.end ≡ x.end → rows.tells t (Err error)
          → error ≡ Memory)
          → CapturesMemory shell.calls s
      captures-memory memory = λ p seen from.
          errors-memory copies results_of x memory p.items (caught.runs p seen from).0.come

      -- captures that are all `Ok`, as rows and as matches
      as_rows : OkedAs First Whole (RowsAreFirst rows.nfa rows.kind rows.earliest x)
          (RowsAreAll rows.nfa rows.kind rows.earliest x)
      as_rows = record {
        first = λ cs h. record { come = next-clean copies results_of (fresh x) cs h.come };
        whole = λ cs h. record { come = last-clean copies results_of (fresh x) cs h.come };
      }

      as_matches : OkedAs First Whole (MatchesAreFirst rows.nfa rows.kind rows.earliest x)
          (MatchesAreAll rows.nfa rows.kind rows.earliest x)
      as_matches = record {
        first = λ cs h. subst (λ (ms : List Found). AreFirstMatches rows.nfa rows.kind rows.earliest x ms)
            (found-rows cs)
            (rows-first_matches rows.nfa rows.kind rows.earliest x (map row_of cs) (as_rows.first cs h));
        whole = λ cs h. subst (λ (ms : List Found). AreMatches rows.nfa rows.kind rows.earliest x ms) (found-rows cs)
            (rows-matches rows.nfa rows.kind rows.earliest x (map row_of cs) (as_rows.whole cs h));
      }

      -- all that its calls give
      pub captures-given : searches.May (shell.inner s).backend (steps_iter_state (shell.inner s)).at
          → CapturesGiven shell.calls rows.nfa rows.kind rows.earliest rows.tells x s
      captures-given may =
          let row = oks-given as_rows caught in
          let match = oks-given as_matches caught in
          record {
            runs = caught.runs;
            first = caught.first;
            next = caught.next;
            rows = row.runs;
            first_rows = row.first;
            next_row = row.next;
            all_rows = row.all;
            matches = match.runs;
            first_matches = match.first;
            next_match = match.next;
            all_matches = match.all;
            groups = runs-hold shell.calls Holds (λ item. IfOk item (HasGroups rows.nfa)) call-groups s
                (may, begins.good);
            inside = λ p seen from.
                values-hold copies results_of x (CapturesInside x) step-inside p.items (caught.runs p seen from).0.come;
            disjoint = λ p seen from cs are.
                matches-disjoint rows.nfa rows.kind rows.earliest x (map match_in cs) (match.runs p seen from cs are).0;
          }

-- nothing follows what is already whole
nothing-more : {X : Type 0} (xs more : List X) → xs ≡ xs ++ more → length more ≡ 0
nothing-more xs more e = omega (arith, ap length e, length-append xs more)

-- If the rest of a list follows first values, and there is one list, the items of each run are its first elements.
pub runs-are : {T X Y : Type 0} (steps : T → Option Y → T → Type 0) (view : Y → X) (First Whole : List X → Type 0)
    → ((xs ys : List X) → First xs → Whole ys → (more : List X) × (ys ≡ xs ++ more))
    → ((xs ys : List X) → Whole xs → Whole ys → xs ≡ ys) → (s : T)
    → RunsGive steps (λ ys. First (map view ys)) (λ ys. Whole (map view ys)) s
    → EachRunFrom steps s (λ p. (all : List X) → Whole all → ItemsMapTo p view all)
runs-are steps view First Whole follows one s run = λ p seen from all them.
    let k = run p seen from in
    let rest = follows (map view p.items) all k.0 them in
    lists p view all rest.0
    (λ whole. nothing-more (map view p.items) rest.0 (one (map view p.items) all (k.1 whole) them ∙ rest.1)) rest.1

-- matches that are apart are in the span
pub all-inside : (x : Search) (last : Option ℕ) (ms : List Match) → AreDisjoint x last (map found_of ms)
    → All (λ m. IsInside x (found_of m)) ms
all-inside x last [] h = All-nil (λ m. IsInside x (found_of m))
all-inside x last (m ∷ ms) h = All-cons (λ m. IsInside x (found_of m)) m ms h.0
    (all-inside x (Some (found_of m).end) ms h.2)

-- What answers the searches gives the matches of searches like x. A shell's calls are those of the iterator in it.
module _ (nfa : Automaton) (kind : MatchKind) {S T : Type 0} {x : Search}
    (answers : AnswersOf S x (AnswersMatch nfa kind x.earliest))
    (shell : ShellOf (StepsBy (items_as span_of found_of) answers.asks) (λ m. Ok m) T) (s : T)
    (begins : Begins answers.Good x (shell.inner s)) where
  -- its items are those of x
  found : ItemsGiven shell.calls (AreFirst nfa kind x) (AreAll nfa kind x) s
  found = given-as shell.calls (items-given (items_as span_of found_of) answers shell s begins)
      (λ xs h. record { come = rw (items-view found_of xs) at h })
      (λ xs h. record { come = rw (items-view found_of xs) at h })

  -- all that its calls give
  pub matches-given : MatchesGiven nfa kind x shell.calls s
  matches-given = record {
    runs = found.runs;
    first = found.first;
    next = found.next;
    disjoint = λ p seen from.
        let k = matches-disjoint nfa kind x.earliest x (map found_of p.items) (found.runs p seen from).0 in
        (k, all-inside x None p.items k);
    are = runs-are shell.calls found_of (AreFirstMatches nfa kind x.earliest x) (AreMatches nfa kind x.earliest x)
        (matches-rest nfa kind x.earliest x) (matches-unique nfa kind x.earliest x) s found.runs;
  }
