-- What an iteration adds to the totals of a cache, where each search does the work that its engine states.
use Rattle.nfa_paths.proofs.Common.{mul-le-mul_left, ◌≡◌, ◌∙◌, ℕ, ◌+◌, ◌*◌, ◌≤◌, ◌⊎◌, Bool, List, length, ap, Option, None, Some, arith, not, ◌&&◌, Found, HalfFound, Search, is_anchored, Anchored, MatchKind, Span, Automaton, IsHalfAnswer, IsWithinScans, IsWork, max_scans, span_len, total_degree, is_utf8_empty, IsBounded, max_scan_turns, false, inl, inr, Ok, Err, LeftmostFirst}
use Rattle.nfa_paths.proofs.AnswerLemmas.{search_answer-unique}
use Rattle.nfa_paths.proofs.InsideLemmas.{half-within}
use Rattle.nfa_search_base.specs.Common.{Row, row_found, row_span, half_span_of, AnswersRow, Leaves, LeavesAtEnd, answers_to_end, SameButStart, AnswersMatch, Answer, LiesIn, fresh, answer_span, span_of, DoesSearch, asks_keeping}
use Rattle.nfa_search_base.proofs.CapturesLemmas.{row-tells}
use Rattle.nfa_search_base.proofs.IterStateLemmas.{IsOrdered}
use Rattle.nfa_search_base.proofs.ListLemmas.{match-lies}
use Rattle.nfa_engines.specs.IterationLaws.{AddsAtMost, Totals, list_scan_limit, backtracker_totals, pike_totals}
use Rattle.nfa_engines.proofs.IterationLemmas.{first-ends}
use Rattle.nfa_engines.proofs.ReachLemmas.{Reaches, few-scans, half-known, half-reaches, match-known, match-reaches, one-scan, restarts_in}
use Rattle.nfa_engines.proofs.WorkLemmas.{Adds, Costs, CostsOf, adds-none, calls-within, few-found, found_count, found_count-to_end, is_of-fresh, led, list-within}
use Rattle.nfa_search_base.proofs.EngineLemmas.{same-or-made}
use Rattle.nfa_backtrack.specs.Backtrack.{Backtracker, BacktrackCache}
use Rattle.nfa_backtrack.specs.Finding.{IsTryCapturesAnswer, IsTryFindAnswer, SearchesOnce, backtracker_scans}
use Rattle.nfa_pikevm.specs.Engines.{Pike, PikeCache, kind_of}
use Rattle.nfa_pikevm.specs.Finding.{PikeSearches, PikeAnswersMatch, PikeAnswersRow, pike_scans}

module _ (nfa : Automaton) (kind : MatchKind) (earliest : Bool) where
  -- The match of a search lies there, if there is one: in the span, and after the starts that its scans passed.
  pub record Hit (x : Search) (reply_span : Option Span) : Type 0 where
    pub lies : LiesIn x reply_span × IsOrdered reply_span
    pub reaches : (count : ℕ) → IsWithinScans nfa kind earliest x count → Reaches x count reply_span
    pub known : Reaches x 0 reply_span

  pub no-hit : (x : Search) → Hit x None
  no-hit x = record {
    lies = (tt, λ p is. let never : None ≡ Some p = is in cc);
    reaches = λ count within. tt;
    known = tt;
  }

  pub match-hit : (x : Search) (a : Answer Found) → AnswersMatch nfa kind earliest x a → Hit x (answer_span span_of a)
  match-hit x (Ok (Some f)) h = record {
    lies = match-lies nfa kind earliest x (Ok (Some f)) h;
    reaches = λ count within. match-reaches nfa kind earliest x count within f h;
    known = match-known nfa kind earliest x f h;
  }
  match-hit x (Ok None) h = no-hit x
  match-hit x (Err error) h = no-hit x

  pub row-hit : (x : Search) (a : Answer Row) → AnswersRow nfa kind earliest x a → Hit x (answer_span row_span a)
  row-hit x (Ok (Some row)) h =
      match-hit x (Ok (Some (row_found row))) (row-tells nfa kind earliest x (Ok (Some row)) h)
  row-hit x (Ok None) h = no-hit x
  row-hit x (Err error) h = no-hit x

  pub half-hit : (x : Search) (half : HalfFound) → IsHalfAnswer nfa kind earliest x (Some half)
      → Hit x (Some (half_span_of half))
  half-hit x half h = record {
    lies = (half-within nfa kind earliest x half h, grind arith);
    reaches = λ count within. half-reaches nfa kind earliest x count within half h;
    known = half-known nfa kind earliest x half h;
  }

  -- one search did the work that is its own
  pub record Worked (x : Search) (old new : Totals) : Type 0 where
    pub count : ℕ
    pub turned : ℕ
    pub bounded : IsBounded nfa kind earliest x count turned
    pub scans : new.scans ≡ old.scans + count
    pub turns : new.turns ≡ old.turns + turned

-- a search that answered made no more scans than its answer takes
pub work-within : {nfa : Automaton} {kind : MatchKind} {earliest : Bool} {x : Search} {count turned : ℕ}
    → IsWork nfa kind earliest x count turned → IsWithinScans nfa kind earliest x count
work-within {nfa} {kind} {earliest} {x} work = grind (arith, search_answer-unique)

-- by these bounds, and by what the totals rise
pub worked : {nfa : Automaton} {kind : MatchKind} {earliest : Bool} {x : Search} {old new : Totals} {count turned : ℕ}
    → IsWithinScans nfa kind earliest x count → count ≤ max_scans nfa x → turned ≤ count * max_scan_turns nfa x
    → new.scans ≡ old.scans + count → new.turns ≡ old.turns + turned → Worked nfa kind earliest x old new
worked {count = count} {turned} within limit bound scans turns = grind arith

module _ (nfa : Automaton) (kind : MatchKind) (earliest : Bool) where
  module _ (x y : Search) (like : SameButStart x y) (from : x.start ≤ y.start) (reply_span : Option Span)
      (hit : Hit nfa kind earliest y reply_span) (old new : Totals) where
    abbrev Cost : Type 0
    Cost = (count : ℕ) × Costs (restarts_in nfa x) y reply_span count × Adds (max_scan_turns nfa x) old new count

    -- what a search costs
    worked-cost : Worked nfa kind earliest y old new → Cost
    worked-cost w = (
      w.count,
      record {
        starts = few-scans nfa kind earliest y w.count w.bounded.within;
        once = λ never. one-scan nfa y w.count (same ∙ never) w.bounded.scans;
        reach = hit.reaches w.count w.bounded.within;
      },
      record {
        scans = w.scans;
        turns =
            let end = like.end in
            let short : span_len y + 1 ≤ span_len x + 1 = omega (arith, from, end) in
            let each = mul-le-mul_left (1 + total_degree nfa) short in
            by-more new.turns old.turns w.turned _ _ w.turns w.bounded.turns (mul-le-mul_left w.count each);
      },
    )
      where
        same : restarts_in nfa y ≡ restarts_in nfa x
        same = ap (λ (a : Anchored). is_utf8_empty nfa && not (is_anchored a)) like.anchored

        by-more : (a b m n k : ℕ) → a ≡ b + m → m ≤ n → n ≤ k → a ≤ b + k
        by-more a b m n k is h more = omega arith

    -- and what it costs where the answer was known
    known-cost : new ≡ old → Cost
    known-cost is = (
      0,
      record { starts = omega arith; once = λ never. omega arith; reach = hit.known },
      rw is (adds-none (max_scan_turns nfa x) old),
    )

    cost-of : Worked nfa kind earliest y old new ⊎ (new ≡ old) → Cost
    cost-of = grind (arith, worked-cost, known-cost)

-- Searches of an NFA that each do their work, or none. What they ask has `totals`, is `Good`, and stays so.
pub record WorkOf {S X : Type 0} (span : X → Span) (asks : S → Search → Answer X → S → Type 0) : Type 1 where
  pub nfa : Automaton
  pub kind : MatchKind
  pub early : Search → Bool
  pub totals : S → Totals
  pub Good : S → Type 0
  pub hits : (s : S) (y : Search) (a : Answer X) (t : S) → asks s y a t
      → Hit nfa kind (early y) y (answer_span span a)
  pub works : (s : S) (y : Search) (a : Answer X) (t : S) → Good s → asks s y a t
      → (Worked nfa kind (early y) y (totals s) (totals t) ⊎ (totals t ≡ totals s)) × Good t

module _ {S X : Type 0} {span : X → Span} {asks : S → Search → Answer X → S → Type 0} (work : WorkOf span asks)
    (x : Search) where
  abbrev costs : CostsOf span asks (max_scan_turns work.nfa x) (restarts_in work.nfa x) x
  costs = record {
    totals = work.totals;
    Good = work.Good;
    costs = λ s y a t like from good asked.
        let k = work.works s y a t good asked in
        let cost = cost-of work.nfa work.kind (work.early y) x y like from in
        let c = cost (answer_span span a) (work.hits s y a t asked) (work.totals s) (work.totals t) k.0 in
        (c.0, c.1, c.2, k.1);
  }

  -- an iteration to its end, past these matches
  pub list-adds : (ms : List X) (s t : S) → work.Good s → LeavesAtEnd span asks x ms s t
      → AddsAtMost (list_scan_limit work.nfa x (length ms)) work.nfa x (work.totals s) (work.totals t)
  list-adds ms s t good left =
      let all = led costs (fresh x) s (answers_to_end ms) t (is_of-fresh x) good left.steps in
      list-within work.nfa x (length ms) (work.totals s) (work.totals t) (rw (found_count-to_end ms) at all)

  -- and one that stops anywhere
  pub calls-add : (s t : S) → work.Good s → Leaves span asks x s t
      → AddsAtMost (2 * span_len x + 3) work.nfa x (work.totals s) (work.totals t)
  calls-add s t good left =
      let all = led costs (fresh x) s left.answers t (is_of-fresh x) good left.steps in
      let few = few-found costs (λ p y a q asked. let hit = work.hits p y a q asked in hit.lies) in
      let found = few (fresh x) s left.answers t (is_of-fresh x) good left.steps in
      let ends = first-ends x in
      calls-within work.nfa x (found_count left.answers) (work.totals s) (work.totals t) all
      (omega (arith, found, ends))

-- ---- the PikeVM

module _ (vm : Pike) where
  pub pike-worked : (y : Search) (old new : PikeCache) → PikeSearches vm y old new
      → Worked vm.nfa (kind_of vm) y.earliest y (pike_totals old) (pike_totals new)
  pike-worked y old new h = worked (work-within h.work) h.scans h.turns h.total.scans h.total.turns

  -- its searches for matches, unless a match is known, and for captures
  abbrev pub pike_found : WorkOf span_of (asks_keeping (PikeAnswersMatch vm) (λ y a. PikeSearches vm y) pike_scans)
  pike_found = record {
    nfa = vm.nfa;
    kind = kind_of vm;
    early = λ y. y.earliest;
    totals = λ s. pike_totals s.cache;
    Good = λ s. Unit {0};
    hits = λ s y a t asked. match-hit vm.nfa (kind_of vm) y.earliest y a asked.tells;
    works = λ s y a t good asked. (
      elim (same-or-made asked.work) [
        | inl same ↦ inr (ap pike_totals same)
        | inr work ↦ inl (pike-worked y s.cache t.cache work)
      ],
      tt,
    );
  }

  abbrev pub pike_filled : WorkOf row_span (DoesSearch (PikeAnswersRow vm) (λ y a. PikeSearches vm y))
  pike_filled = record {
    nfa = vm.nfa;
    kind = kind_of vm;
    early = λ y. y.earliest;
    totals = pike_totals;
    Good = λ s. Unit {0};
    hits = λ s y a t asked. row-hit vm.nfa (kind_of vm) y.earliest y a asked.tells;
    works = λ s y a t good asked. (inl (pike-worked y s t asked.work), tt);
  }

-- ---- the backtracker

module _ (e : Backtracker) where
  pub back-worked : {X : Type 0} (y : Search) (a : Answer X) (old new : BacktrackCache) → SearchesOnce e y a old new
      → Worked e.nfa LeftmostFirst false y (backtracker_totals old) (backtracker_totals new)
  back-worked y (Ok found) old new h = worked (work-within h.exact) h.scans h.turns h.total.scans h.total.turns
  back-worked y (Err error) old new h = worked h.exact h.scans h.turns h.total.scans h.total.turns

  pub find-hit : (y : Search) (a : Answer Found) → IsTryFindAnswer e y a
      → Hit e.nfa LeftmostFirst false y (answer_span span_of a)
  find-hit y (Ok found) h = match-hit e.nfa LeftmostFirst false y (Ok found) h.1
  find-hit y (Err error) h = no-hit e.nfa LeftmostFirst false y

  pub captures-hit : (y : Search) (a : Answer Row) → IsTryCapturesAnswer e y a
      → Hit e.nfa LeftmostFirst false y (answer_span row_span a)
  captures-hit y (Ok row) h = row-hit e.nfa LeftmostFirst false y (Ok row) h.1
  captures-hit y (Err error) h = no-hit e.nfa LeftmostFirst false y

  -- its searches for matches, unless a match is known, and for captures
  abbrev pub back_found
      : WorkOf span_of (asks_keeping (IsTryFindAnswer e) (λ y a. SearchesOnce e y a) backtracker_scans)
  back_found = record {
    nfa = e.nfa;
    kind = LeftmostFirst;
    early = λ y. false;
    totals = λ s. backtracker_totals s.cache;
    Good = λ s. Unit {0};
    hits = λ s y a t asked. find-hit y a asked.tells;
    works = λ s y a t good asked. (
      elim (same-or-made asked.work) [
        | inl same ↦ inr (ap backtracker_totals same)
        | inr work ↦ inl (back-worked y a s.cache t.cache work)
      ],
      tt,
    );
  }

  abbrev pub back_filled : WorkOf row_span (DoesSearch (IsTryCapturesAnswer e) (λ y a. SearchesOnce e y a))
  back_filled = record {
    nfa = e.nfa;
    kind = LeftmostFirst;
    early = λ y. false;
    totals = backtracker_totals;
    Good = λ s. Unit {0};
    hits = λ s y a t asked. captures-hit y a asked.tells;
    works = λ s y a t good asked. (inl (back-worked y a s t asked.work), tt);
  }
