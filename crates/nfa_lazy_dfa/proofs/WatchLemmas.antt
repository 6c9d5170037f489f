-- No match starts before a position at which the scan is in an idle row and found nothing.
use Rattle.nfa_paths.proofs.Common.{◌≡◌, ℕ, zero, suc, ◌+◌, ◌-◌, ◌*◌, ◌/◌, ◌%◌, ◌≤◌, inl, inr, Bool, List, [], ◌∷◌, refl, ap, sym, ◌∙◌, subst, arith, Result, Ok, Err, IfOk, IfSome, Option, None, Some, option_and_then, option_map, option_to_list, slice_get, half_found_of, HalfFound, Search, MatchKind, Automaton, In, IsHalfAnswer, byte_at, node_at, target_on, HalfMatch, holding_at}
use Rattle.nfa_paths.proofs.InsideLemmas.{half-within}
use Rattle.nfa_paths.proofs.MemberLemmas.{In-append}
use Rattle.nfa_lazy_dfa.specs.Closures.{closure, explore, kept, step}
use Rattle.nfa_lazy_dfa.specs.Configurations.{closure_at, scan_half, scanned, StartsFrom}
use Rattle.nfa_lazy_dfa.proofs.IdleLemmas.{StartsFrom-start, half-after, idle-passes}
use Rattle.nfa_lazy_dfa.specs.Apart.{IsStartApart}
use Rattle.nfa_lazy_dfa.specs.Places.{IsFoundAt}
use Rattle.nfa_lazy_dfa.specs.Rows.{IsAt, IsRowOf, stances_of}
use Rattle.nfa_lazy_dfa.specs.Runs.{place_at}
use Rattle.nfa_lazy_dfa.specs.Stances.{Stance}
use Rattle.nfa_lazy_dfa.specs.Watches.{IsBegun, IsIdlePlace, IsWatching}
use Rattle.nfa_lazy_dfa.specs.Windows.{IsWindow, half_in, start_in}
use Rattle.nfa_lazy_dfa.proofs.RunLemmas.{IsFoundAt-same}
use Rattle.nfa_lazy_dfa.specs.declared.cache.Cache.{Cache}
use Rattle.nfa_lazy_dfa.specs.declared.dfa.DFA.{DFA}
use Rattle.nfa_lazy_dfa.specs.declared.follow.Stand.{Stand}
use Rattle.nfa_lazy_dfa.specs.declared.scan.Place.{Place}
use Rattle.nfa_lazy_dfa.specs.declared.error.StopError.{StopError}
use Rattle.nfa_lazy_dfa.specs.declared.watch.Watch.{Watch}
use Rattle.nfa_lazy_dfa.specs.declared.window.Window.{Window}

-- some state leads to this one over a byte
record IsLedTo (nfa : Automaton) (q : ℕ) : Type 0 where
  from : ℕ
  byte : ℕ
  target : target_on (node_at nfa from) byte ≡ Some q

step-led : (nfa : Automaton) (byte : Option ℕ) (states : List ℕ) (q : ℕ) → In q (step nfa byte states) → IsLedTo nfa q
step-led nfa byte [] q i = absurd i
step-led nfa byte (s ∷ states) q i =
    elim (In-append q (option_to_list (option_and_then (target_on (node_at nfa s)) byte)) (step nfa byte states) i) [
      | inl here ↦ of byte here
      | inr later ↦ step-led nfa byte states q later
    ]
  where
    some : (b : ℕ) (o : Option ℕ) → target_on (node_at nfa s) b ≡ o → In q (option_to_list o) → IsLedTo nfa q
    some b None is i = absurd i
    some b (Some t) is (inl e) = record { from = s; byte = b; target = is ∙ ap Some (sym e) }
    some b (Some t) is (inr i) = absurd i

    of : (o : Option ℕ) → In q (option_to_list (option_and_then (target_on (node_at nfa s)) o)) → IsLedTo nfa q
    of None i = absurd i
    of (Some b) i = some b (target_on (node_at nfa s) b) refl i

-- a state of a configuration is led to
scanned-led : (nfa : Automaton) (x : Search) (kind : MatchKind) (earliest : Bool) (n q : ℕ)
    → In q (scanned nfa x kind earliest n).states → IsLedTo nfa q
scanned-led nfa x kind earliest zero q i = absurd i
scanned-led nfa x kind earliest (suc n) q i =
    step-led nfa (byte_at x (x.start + n))
    (kept nfa kind (closure_at nfa x (x.start + n) (scanned nfa x kind earliest n))) q i

no-states : (states : List ℕ) → ((q : ℕ) → In q states → ⊥) → states ≡ []
no-states [] none = refl
no-states (s ∷ states) none = absurd (none s (inl refl))

closure-nothing : (nfa : Automaton) (x : Search) (at : ℕ) → closure nfa (holding_at x.haystack at) [] ≡ []
unfolding explore
closure-nothing nfa x at = refl

module _ (dfa : DFA) (c : Cache) (x : Search) where
  -- an idle row
  pub idle-begun : (at row : ℕ) → IsAt dfa c x at row → IsStartApart dfa.nfa
      → ((s : Stance) → IsRowOf c row s → s.states ≡ dfa.nfa.anchored ∷ [])
      → None ≡ (scanned dfa.nfa x dfa.kind x.earliest (at - x.start)).found → IsBegun dfa.nfa x at at
  idle-begun at row here apart alone nothing =
      let low : x.start ≤ at = here.low in
      let n = at - x.start in
      let d = scanned dfa.nfa x dfa.kind x.earliest n in
      let none : d.states ≡ [] = no-states d.states (λ q i.
      let only : In q (dfa.nfa.anchored ∷ []) =
      subst (In q) (alone here.stance here.is) (here.stands.held q i) in
      let led = scanned-led dfa.nfa x dfa.kind x.earliest n q i in
      apart.apart led.from led.byte (led.target ∙ ap Some (same q only))) in
      let back : x.start + n ≡ at = omega arith in
      record {
        low = low;
        high = omega arith;
        starts = subst (StartsFrom dfa.nfa x) back (idle-passes dfa.nfa x dfa.kind x.earliest n (record {
          nothing = sym nothing;
          closed = rw none (closure-nothing dfa.nfa x (x.start + n));
        }));
      }
    where
      same : (q : ℕ) → In q (dfa.nfa.anchored ∷ []) → q ≡ dfa.nfa.anchored
      same q (inl e) = e
      same q (inr i) = absurd i

-- the place of an idle row
pub IsBegun-idle : (dfa : DFA) (c : Cache) (x : Search) (at first : ℕ) → IsFoundAt dfa c x (place_at at first None)
    → first % 256 ≡ 0 → IsIdlePlace dfa c first → IsStartApart dfa.nfa → IsBegun dfa.nfa x at at
IsBegun-idle dfa c x at first here whole idle apart =
    idle-begun dfa c x at (first / 256) here.at apart (λ s is. idle.alone s whole is) here.found

-- the start of the search
pub IsBegun-start : (nfa : Automaton) (x : Search) (at : ℕ) → at ≡ x.start → IsBegun nfa x at at
IsBegun-start nfa x at same = record {
  low = omega arith;
  high = omega arith;
  starts = subst (StartsFrom nfa x) (sym same) (StartsFrom-start nfa x);
}

-- only the counts of the cache changed
pub IsWatching-same : (dfa : DFA) (x : Search) (w : Watch) (old new : Cache) → new.stands.items ≡ old.stands.items
    → IsWatching dfa old x w → IsWatching dfa new x w
IsWatching-same dfa x w old new same h = record {
  whole = h.whole;
  at = IsFoundAt-same dfa x (place_at w.at w.first None) old new same h.at;
  idle = record {
    alone = λ s whole is.
        h.idle.alone s whole (ap (λ (t : List Stand). slice_get (stances_of t) (w.idle / 256)) (sym same) ∙ is);
  };
  begun = h.begun;
}

-- a scan that found nothing, by where the cells of its row begin
pub IsFoundAt-place : (dfa : DFA) (c : Cache) (x : Search) (p : Place) → p.found ≡ None → IsFoundAt dfa c x p
    → IsFoundAt dfa c x (place_at p.at (p.row * 256) None)
IsFoundAt-place dfa c x p none here =
    let same : p.row ≡ p.row * 256 / 256 = omega arith in
    subst (λ (r : ℕ). let q : Place = record { at = p.at; row = r; found = None } in IsFoundAt dfa c x q) same
    (subst (λ (o : Option HalfMatch).
    let q : Place = record { at = p.at; row = p.row; found = o } in IsFoundAt dfa c x q) none here)

-- a scan that finds a match has a position
scan-inside : (nfa : Automaton) (kind : MatchKind) (earliest : Bool) (x : Search) (h : HalfFound)
    → scan_half nfa x kind earliest ≡ Some h → x.start ≤ x.end
scan-inside nfa kind earliest x h is = grind arith

-- a window that starts where the search does, and one that starts at an idle position

pub IsWindow-start : (nfa : Automaton) (kind : MatchKind) (x : Search) (start : ℕ) → start ≡ x.start
    → (half : Option HalfMatch) → IsHalfAnswer nfa kind x.earliest x (option_map half_found_of half)
    → (w : Option Window) → option_map half_in w ≡ option_map half_found_of half
    → IfSome w (λ w. start_in w ≡ start) → IfSome w (IsWindow nfa x)
IsWindow-start nfa kind x start first half answers None is at = tt
IsWindow-start nfa kind x start first half answers (Some w) is at =
    let lies =
    half-within nfa kind x.earliest x (half_in w) (subst (IsHalfAnswer nfa kind x.earliest x) (sym is) answers)
    in
    let here : start_in w ≡ x.start = at ∙ first in
    record {
      low = omega arith;
      order = omega (arith, lies.0);
      high = lies.1;
      starts = subst (StartsFrom nfa x) (sym here) (StartsFrom-start nfa x);
    }

pub IsWindow-begun : (nfa : Automaton) (kind : MatchKind) (x : Search) (w : Option Window)
    → IsHalfAnswer nfa kind x.earliest x (option_map half_in w) → option_map half_in w ≡ scan_half nfa x kind x.earliest
    → IfSome w (λ w. IsBegun nfa x (start_in w) x.end) → IfSome w (IsWindow nfa x)
IsWindow-begun nfa kind x None answers is begun = tt
IsWindow-begun nfa kind x (Some w) answers is begun =
    let lies = half-within nfa kind x.earliest x (half_in w) answers in
    record {
      low = begun.low;
      order = half-after nfa x (start_in w) begun.starts kind x.earliest (half_in w) (sym is);
      high = lies.1;
      starts = begun.starts;
    }

pub IsWindow-scan : (nfa : Automaton) (kind : MatchKind) (x : Search) (r : Result (Option Window) StopError)
    → IfOk r (λ w. IsHalfAnswer nfa kind x.earliest x (option_map half_in w))
    → IfOk r (λ w. option_map half_in w ≡ scan_half nfa x kind x.earliest)
    → IfOk r (λ w. IfSome w (λ w. IsBegun nfa x (start_in w) x.end)) → IfOk r (λ w. IfSome w (IsWindow nfa x))
IsWindow-scan nfa kind x (Err e) answers is begun = tt
IsWindow-scan nfa kind x (Ok w) answers is begun = IsWindow-begun nfa kind x w answers is begun

-- a scan that finds a match has a position, and no match starts before its first one
pub IsBegun-first : (nfa : Automaton) (kind : MatchKind) (earliest : Bool) (x : Search) (start : ℕ) → start ≡ x.start
    → (half : Option HalfMatch) → option_map half_found_of half ≡ scan_half nfa x kind earliest
    → (w : Option Window) → option_map half_in w ≡ option_map half_found_of half
    → IfSome w (λ w. start_in w ≡ start) → IfSome w (λ w. IsBegun nfa x (start_in w) x.end)
IsBegun-first nfa kind earliest x start first half steps None is at = tt
IsBegun-first nfa kind earliest x start first half steps (Some w) is at =
    let here : start_in w ≡ x.start = at ∙ first in
    let found : scan_half nfa x kind earliest ≡ Some (half_in w) = sym (is ∙ steps) in
    let inside : x.start ≤ x.end = scan-inside nfa kind earliest x (half_in w) found in
    record {
      low = omega arith;
      high = omega arith;
      starts = subst (StartsFrom nfa x) (sym here) (StartsFrom-start nfa x);
    }
