-- The path that answers a search answers the search of a window.
use Rattle.nfa_paths.proofs.Common.{Err, Ok, Result, ◌≡◌, ◌⊎◌, inl, inr, ℕ, ◌<◌, ◌≤◌, Bool, true, false, List, refl, ap, sym, ◌∙◌, subst, arith, IfErr, IfNone, IfOk, IfSome, Option, None, Some, is_some, replicate, option_and_then, option_map, option_map_or, length-replicate, Found, HalfFound, Search, search_of, MatchKind, Automaton, Pair, PathTo, IsFirstPath, IsFirstTo, IsAnswer, IsFindAnswer, IsHalfAnswer, IsMatch, IsScanAnswer, IsSearchAnswer, edges, node_at, path_half, pattern_of, raised, slot_row, starts, Yes, Input, LeftmostFirst}
use Rattle.nfa_paths.proofs.AnswerLemmas.{scan_answer-leads, scan_answer-unique}
use Rattle.nfa_paths.proofs.OneScanLemmas.{last-scan, scan-of, search-of}
use Rattle.nfa_paths.proofs.PathToLemmas.{EndsWith-last}
use Rattle.nfa_lazy_dfa.specs.Configurations.{StartsFrom}
use Rattle.nfa_engines.specs.SpanLaws.{EndMayBeCut}
use Rattle.nfa_engines.specs.StartLaws.{IsFirstStart, IsUnbound, from_start}
use Rattle.nfa_paths.proofs.FirstStartLemmas.{heads-one, same_edges, start-anchored, unanchored-start, with-starts}
use Rattle.nfa_lazy_dfa.specs.Windows.{IsWindow, half_in, start_in}
use Rattle.nfa_lazy_dfa.specs.declared.window.Window.{Window}
use Rattle.nfa_choice.specs.ChoiceState.{kind_in}
use Rattle.nfa_meta.specs.RegexState.{KeepsRegex, RegexState}
use Rattle.nfa_meta.specs.WindowLaws.{WindowHasTheAnswer, WindowHasTheMatch, within}
use Rattle.nfa_meta.specs.WindowRuns.{AnswersAs, EndsAtMatch, HalvesAs, HasNoMatch, IsWindowOf, NeedsWhole}
use Rattle.nfa_meta.specs.Windowed.{IsWindowed}
use Rattle.nfa_engines.proofs.StartAnswerLemmas.{path-back, path-on}

-- an unanchored search, and a position before which no accepting path starts
pub record StartsLate (nfa : Automaton) (x : Search) (s : ℕ) : Type 0 where
  pub free : IsUnbound nfa x
  pub low : x.start ≤ s
  pub from : StartsFrom nfa x s

module _ {nfa : Automaton} {x : Search} {s : ℕ} (late : StartsLate nfa x s) where
  -- no anchored search before the position matches
  pub first-start : IsFirstStart nfa x s
  first-start = record {
    from = late.low;
    nothing = λ i first before. record {
      no_path = λ m p w accepts.
          let at = start-anchored nfa x i w.start w.among in
          let position : w.start.1 ≡ i = ap (λ (v : Pair). v.1) at.is in
          let high : i ≤ x.end = at.within in
          let path : PathTo (edges nfa x) (starts nfa x) m p =
          subst (λ es. PathTo es (starts nfa x) m p) (same_edges nfa x i Yes)
          (with-starts w (unanchored-start nfa x late.free x.start w.start
          (record { state_is = ap (λ (v : Pair). v.0) at.is; from = omega arith; within = omega arith }))) in
          let past : s ≤ path.start.1 = late.from.from m p path accepts in
          let same : path.start.1 ≡ w.start.1 =
          ap (λ (v : Pair). v.1) (heads-one path.start w.start p path.head w.head) in
          absurd (omega arith);
    };
  }

  -- the first path stays the first one of the search from the position on
  scan-on : (p : List Pair) → IsScanAnswer nfa x LeftmostFirst false (Some p)
      → IsScanAnswer nfa (from_start x s) LeftmostFirst false (Some p)
  scan-on p h =
      subst (λ es. IsFirstTo es (starts nfa (from_start x s)) (IsMatch nfa) p) (sym (same_edges nfa x s x.anchored))
      (record {
        end = h.end;
        path = path-on nfa x late.free s first-start h.end p h.path h.wanted;
        wanted = h.wanted;
        first = λ m q w accepts. h.first m q (path-back nfa x late.free s first-start m q w accepts) accepts;
      })

  -- and the answer of the scan from there on is that of the scan
  pub scan-back : (path : Option (List Pair)) → IsScanAnswer nfa (from_start x s) LeftmostFirst false path
      → IsScanAnswer nfa x LeftmostFirst false path
  scan-back path h = of path
      (subst (λ es. IsFirstPath es (starts nfa (from_start x s)) (IsMatch nfa) path) (same_edges nfa x s x.anchored) h)
    where
      of : (path : Option (List Pair)) → IsFirstPath (edges nfa x) (starts nfa (from_start x s)) (IsMatch nfa) path
          → IsFirstPath (edges nfa x) (starts nfa x) (IsMatch nfa) path
      of None none = λ m p w accepts. none m p (path-on nfa x late.free s first-start m p w accepts) accepts
      of (Some p) h = record {
        end = h.end;
        path = path-back nfa x late.free s first-start h.end p h.path h.wanted;
        wanted = h.wanted;
        first = λ m q w accepts. h.first m q (path-on nfa x late.free s first-start m q w accepts) accepts;
      }

  -- the path of the half match

  record Halved (half : HalfFound) : Type 0 where
    path : List Pair
    answers : IsScanAnswer nfa x LeftmostFirst false (Some path)
    inside : IsScanAnswer nfa (within x s half.offset) LeftmostFirst false (Some path)

  halved : EndMayBeCut LeftmostFirst false → (half : HalfFound)
      → IsHalfAnswer nfa LeftmostFirst false x (Some half) → Halved half
  halved cut half h =
      of h.path (scan-of nfa LeftmostFirst false x late.free.anywhere h.restarts h.path h.answers) h.found_is
    where
      never : Some half ≡ None → ⊥
      never e = cc

      end : (v : Pair) (o : Option ℕ) → Some half ≡ option_map (λ k. record { pattern = k; offset = v.1 }) o
          → v.1 ≡ half.offset
      end v None e = absurd (never e)
      end v (Some k) e = sym (ap (λ (g : Option HalfFound). option_map_or (λ f. f.offset) g 0) e)

      of : (o : Option (List Pair)) → IsScanAnswer nfa x LeftmostFirst false o
          → Some half ≡ option_and_then (path_half nfa) o → Halved half
      of None answers e = absurd (never e)
      of (Some p) answers e =
          let to = scan_answer-leads nfa x LeftmostFirst false p answers in
          let last = EndsWith-last None to.end p to.path.ends in
          let at : to.end.1 ≡ half.offset = end to.end (pattern_of (node_at nfa to.end.0)) (rw last at e) in
          record {
            path = p;
            answers = answers;
            inside = subst (λ (n : ℕ). IsScanAnswer nfa (within x s n) LeftmostFirst false (Some p)) at
                (cut nfa (from_start x s) p to.end (scan-on p answers) to.path.ends);
          }

  module _ (cut : EndMayBeCut LeftmostFirst false) (half : HalfFound)
      (h : IsHalfAnswer nfa LeftmostFirst false x (Some half)) where
    same-path : (restarts : ℕ) (path : Option (List Pair))
        → IsSearchAnswer nfa LeftmostFirst false (within x s half.offset) restarts path
        → IsSearchAnswer nfa LeftmostFirst false x 0 path
    same-path restarts path answers =
        let k = halved cut half h in
        let y = within x s half.offset in
        let scan = scan-of nfa LeftmostFirst false y late.free.anywhere restarts path answers in
        let same = scan_answer-unique nfa y LeftmostFirst false (Some k.path) path k.inside scan in
        search-of nfa LeftmostFirst false x late.free.anywhere path
        (subst (IsScanAnswer nfa x LeftmostFirst false) same k.answers)

    pub window-answer : (pattern : Option ℕ) (slots : List (Option ℕ))
        → IsAnswer nfa LeftmostFirst false (within x s half.offset) pattern slots
        → IsAnswer nfa LeftmostFirst false x pattern slots
    window-answer pattern slots a = record {
      restarts = 0;
      path = a.path;
      answers = same-path a.restarts a.path a.answers;
      pattern_is = a.pattern_is;
      slots_are = a.slots_are;
    }

    pub window-match : (found : Option Found)
        → IsFindAnswer nfa LeftmostFirst false (within x s half.offset) found
        → IsFindAnswer nfa LeftmostFirst false x found
    window-match found a = record {
      restarts = 0;
      path = a.path;
      answers = same-path a.restarts a.path a.answers;
      found_is = a.found_is;
    }

-- no half match, so no path
pub none-path : (nfa : Automaton) (kind : MatchKind) (earliest : Bool) (x : Search)
    → (h : IsHalfAnswer nfa kind earliest x None) → IsSearchAnswer nfa kind earliest x h.restarts None
none-path nfa kind earliest x h =
    subst (IsSearchAnswer nfa kind earliest x h.restarts) (of h.path h.answers h.found_is) h.answers
  where
    half : (v : Pair) (o : Option ℕ) → is_some o ≡ true
        → None ≡ option_map (λ k. (let f : HalfFound = record { pattern = k; offset = v.1 } in f)) o → ⊥
    half v None some e = cc
    half v (Some k) some e = cc

    of : (o : Option (List Pair)) → IsSearchAnswer nfa kind earliest x h.restarts o
        → None ≡ option_and_then (path_half nfa) o → o ≡ None
    of None answers e = refl
    of (Some p) answers e =
        let scan = (last-scan nfa kind earliest x h.restarts p answers).scan in
        let to = scan_answer-leads nfa (raised x h.restarts) kind earliest p scan in
        let last = EndsWith-last None to.end p to.path.ends in
        absurd (half to.end (pattern_of (node_at nfa to.end.0)) to.matches (rw last at e))

-- without a half match there is no pattern, and no slot is set
none-answer : (nfa : Automaton) (kind : MatchKind) (earliest : Bool) (x : Search)
    → IsHalfAnswer nfa kind earliest x None → (n : ℕ) → IsAnswer nfa kind earliest x None (replicate n None)
unfolding slot_row
none-answer nfa kind earliest x h n =
    let f = none-path nfa kind earliest x h in
    record {
      restarts = h.restarts;
      path = None;
      answers = f;
      pattern_is = refl;
      slots_are = ap (λ (k : ℕ). replicate k None) (sym (length-replicate n None));
    }

-- nor is there a match
pub none-match : (nfa : Automaton) (kind : MatchKind) (x : Search)
    → IsHalfAnswer nfa kind x.earliest x None → HasNoMatch nfa kind x
none-match nfa kind x h = record {
  rows = none-answer nfa kind x.earliest x h;
  matches = record {
    restarts = h.restarts;
    path = None;
    answers = none-path nfa kind x.earliest x h;
    found_is = refl;
  };
}

-- a search has its own answers
pub answers-self : (nfa : Automaton) (kind : MatchKind) (x y : Search) → y ≡ x → AnswersAs nfa kind x y
answers-self nfa kind x y is =
    subst (λ (z : Search). AnswersAs nfa kind x z) (sym is)
    (record { rows = λ pattern slots h. h; matches = λ found h. h })

-- the window that a lazy DFA found of a search, and the search of that window
pub record HasWindow (nfa : Automaton) (x y : Search) (w : Window) : Type 0 where
  pub windowed : IsWindowed nfa x
  pub window : IsWindow nfa x w
  pub is : y ≡ within x (start_in w) (half_in w).offset

-- it has the answers of the search
module _ {nfa : Automaton} {x y : Search} {w : Window} (has : HasWindow nfa x y w)
    (laws : record { answers : WindowHasTheAnswer; matches : WindowHasTheMatch }) (kind : MatchKind)
    (first : kind ≡ LeftmostFirst) where
  pub window-answers : IsHalfAnswer nfa kind x.earliest x (Some (half_in w)) → AnswersAs nfa kind x y
  window-answers half =
      record { rows = rows x.earliest has.windowed.last half; matches = matches x.earliest has.windowed.last half }
    where
      rows : (e : Bool) → e ≡ false → IsHalfAnswer nfa kind e x (Some (half_in w))
          → (pattern : Option ℕ) (slots : List (Option ℕ)) → IsAnswer nfa kind e y pattern slots
          → IsAnswer nfa kind e x pattern slots
      rows e last half pattern slots a = rw (first, last) (laws.answers nfa x (start_in w) (half_in w) pattern slots
          has.windowed.unbound has.window.low has.window.starts (rw (first, last) at half)
          (rw (has.is, first, last) at a))

      matches : (e : Bool) → e ≡ false → IsHalfAnswer nfa kind e x (Some (half_in w))
          → (found : Option Found) → IsFindAnswer nfa kind e y found → IsFindAnswer nfa kind e x found
      matches e last half found a = rw (first, last) (laws.matches nfa x (start_in w) (half_in w) found
          has.windowed.unbound has.window.low has.window.starts (rw (first, last) at half)
          (rw (has.is, first, last) at a))

-- what is left of a search has its `earliest`
pub part-earliest : (nfa : Automaton) (x y : Search) → (y ≡ x) ⊎ IsWindowOf nfa x y → y.earliest ≡ x.earliest
part-earliest nfa x y (inl same) = ap (λ (z : Search). z.earliest) same
part-earliest nfa x y (inr window) = window.earliest

-- a window of what is left of a search is one of the search, and has its answers
window-then : (nfa : Automaton) (x y z : Search) → IsWindowOf nfa x y → IsWindowOf nfa y z → IsWindowOf nfa x z
window-then nfa x y z one two = record {
  windowed = one.windowed;
  haystack = two.haystack ∙ one.haystack;
  anchored = two.anchored ∙ one.anchored;
  earliest = two.earliest ∙ one.earliest;
  from = (let a = one.from in let b = two.from in omega arith);
  to = (let a = one.to in let b = two.to in omega arith);
}

answers-then : (nfa : Automaton) (kind : MatchKind) (x y z : Search) → y.earliest ≡ x.earliest
    → AnswersAs nfa kind x y → AnswersAs nfa kind y z → AnswersAs nfa kind x z
answers-then nfa kind x y z same one two = record {
  rows = λ pattern slots h. one.rows pattern slots
      (subst (λ (b : Bool). IsAnswer nfa kind b z pattern slots → IsAnswer nfa kind b y pattern slots) same
      (two.rows pattern slots) h);
  matches = λ found h. one.matches found
      (subst (λ (b : Bool). IsFindAnswer nfa kind b z found → IsFindAnswer nfa kind b y found) same
      (two.matches found) h);
}

nothing-then : (nfa : Automaton) (kind : MatchKind) (x y : Search) → y.earliest ≡ x.earliest
    → AnswersAs nfa kind x y → HasNoMatch nfa kind y → HasNoMatch nfa kind x
nothing-then nfa kind x y same one none = record {
  rows = λ n. one.rows None (replicate n None)
      (subst (λ (b : Bool). IsAnswer nfa kind b y None (replicate n None)) same (none.rows n));
  matches = one.matches None (subst (λ (b : Bool). IsFindAnswer nfa kind b y None) same none.matches);
}

-- the end of the match of what is left of a search is that of its match
pub ends-then : (nfa : Automaton) (kind : MatchKind) (x y z : Search) → HalvesAs nfa kind x y
    → EndsAtMatch nfa kind y z → EndsAtMatch nfa kind x z
ends-then nfa kind x y z halves at = record {
  half = at.half;
  found = halves.halves (Some at.half)
      (subst (λ (e : Bool). IsHalfAnswer nfa kind e y (Some at.half)) halves.earliest at.found);
  ends = at.ends;
}

-- so the window of what is left of a search is that of the search
pub window-on : (r : RegexState) {new : RegexState} {x y : Search} {E : Type 0} (result : Result (Option Input) E)
    → IsWindowOf r.choice.nfa x y → AnswersAs r.choice.nfa (kind_in r.choice) x y
    → HalvesAs r.choice.nfa (kind_in r.choice) x y
    → record {
      nothing : IfOk result (λ window. IfNone window (HasNoMatch r.choice.nfa (kind_in r.choice) y));
      part : IfOk result (λ window. IfSome window (λ part. IsWindowOf r.choice.nfa y (search_of part)));
      answers : IfOk result (λ window.
          IfSome window (λ part. AnswersAs r.choice.nfa (kind_in r.choice) y (search_of part)));
      ends : IfOk result (λ window.
          IfSome window (λ part. EndsAtMatch r.choice.nfa (kind_in r.choice) y (search_of part)));
      stopped : IfErr result (λ _. r.stops < new.stops);
      same : new.choice ≡ r.choice;
      keeps : KeepsRegex r new;
    } → record {
      nothing : IfOk result (λ window. IfNone window (HasNoMatch r.choice.nfa (kind_in r.choice) x));
      part : IfOk result (λ window. IfSome window (λ part. IsWindowOf r.choice.nfa x (search_of part)));
      answers : IfOk result (λ window.
          IfSome window (λ part. AnswersAs r.choice.nfa (kind_in r.choice) x (search_of part)));
      ends : IfOk result (λ window.
          IfSome window (λ part. EndsAtMatch r.choice.nfa (kind_in r.choice) x (search_of part)));
      why : IfErr result (λ _. NeedsWhole x r new);
      same : new.choice ≡ r.choice;
      keeps : KeepsRegex r new;
    }
window-on r {x = x} {y = y} (Ok None) of same halves h = record {
  nothing = nothing-then r.choice.nfa (kind_in r.choice) x y of.earliest same h.nothing;
  part = tt;
  answers = tt;
  ends = tt;
  why = tt;
  same = h.same;
  keeps = h.keeps;
}
window-on r {x = x} {y = y} (Ok (Some w)) of same halves h = record {
  nothing = tt;
  part = window-then r.choice.nfa x y (search_of w) of h.part;
  answers = answers-then r.choice.nfa (kind_in r.choice) x y (search_of w) of.earliest same h.answers;
  ends = ends-then r.choice.nfa (kind_in r.choice) x y (search_of w) halves h.ends;
  why = tt;
  same = h.same;
  keeps = h.keeps;
}
window-on r (Err e) of same halves h = record {
  nothing = tt;
  part = tt;
  answers = tt;
  ends = tt;
  why = inr h.stopped;
  same = h.same;
  keeps = h.keeps;
}
