-- The match of an anchored search, from its half match.
use Rattle.nfa_paths.proofs.Common.{◌≡◌, ◌∙◌, ℕ, Bool, true, false, refl, sym, ap, subst, ◌+◌, Option, None, Some, IfNone, IfSome, ◌≤◌, option_and_then, option_map, Found, HalfFound, found_of, slot_count, Search, is_anchored, match_of, Match, MatchKind, Automaton, IsAutomaton, IsFindAnswer, IsHalfAnswer, path_pattern, slot_row, LeftmostFirst, List}
use Rattle.nfa_paths.proofs.InsideLemmas.{match-within}
use Rattle.nfa_paths.proofs.FirstStartLemmas.{next-first}
use Rattle.nfa_engines.specs.Laws.{MatchesNothing}
use Rattle.nfa_search_base.specs.Common.{end_of}
use Rattle.nfa_engines.specs.StartLaws.{FirstStartMatches, IsFirstStart, StartsAnywhere, anchored_at}
use Rattle.nfa_facts.specs.MatchSpanLaws.{AnchoredStartsTheSpan, HalfMatchesAreEnds}
use Rattle.nfa_facts.specs.StatePaths.{RecordsMatchSpans}
use Rattle.nfa_meta.specs.Built.{IsRegexOf}
use Rattle.nfa_meta.specs.RegexState.{KeepsRegex, RegexState}

-- the match that starts with the span and ends as the half match
abbrev pub match_at : ℕ → HalfFound → Found
match_at start h = record { pattern = h.pattern; start = start; end = h.offset }

-- an NFA that records where its matches start and end
pub record Recorded (nfa : Automaton) : Type 0 where
  pub valid : IsAutomaton nfa
  pub records : RecordsMatchSpans nfa

-- an anchored search of such an NFA, and the laws of its half matches
pub record AnchoredSearch (nfa : Automaton) (x : Search) : Type 0 where
  pub of : Recorded nfa
  pub anchored : is_anchored x.anchored ≡ true
  pub ends : HalfMatchesAreEnds
  pub starts : AnchoredStartsTheSpan

module _ {nfa : Automaton} {x : Search} (bound : AnchoredSearch nfa x) (kind : MatchKind) (earliest : Bool) where
  pub match-of-half : (half : Option HalfFound) → IsHalfAnswer nfa kind earliest x half
      → IsFindAnswer nfa kind earliest x (option_map (match_at x.start) half)
  match-of-half half h =
      subst (IsFindAnswer nfa kind earliest x)
      (same found (bound.ends nfa kind earliest x half found bound.of.valid bound.of.records h answer)
      (bound.starts nfa kind earliest x found bound.of.valid bound.anchored bound.of.records answer)) answer
    where
      found : Option Found
      found = match_of (option_and_then (path_pattern nfa) h.path) (slot_row nfa (slot_count nfa.groups) h.path)

      answer : IsFindAnswer nfa kind earliest x found
      answer = record { restarts = h.restarts; path = h.path; answers = h.answers; found_is = refl }

      same : (f : Option Found) → half ≡ option_map end_of f → IfSome f (λ m. m.start ≡ x.start)
          → f ≡ option_map (match_at x.start) half
      same None e s = ap (option_map (match_at x.start)) (sym e)
      same (Some m) e s =
          ap (λ (n : ℕ). Some (record m { start = n })) s ∙ ap (option_map (match_at x.start)) (sym e)

  -- so the half match ends at or after the start
  pub half-after : (h : HalfFound) → IsHalfAnswer nfa kind earliest x (Some h) → x.start ≤ h.offset
  half-after h answers = (match-within nfa kind earliest x (match_at x.start h) (match-of-half (Some h) answers)).1

-- what is known of the anchored search at such a start of a window is what is known of the next one
pub next-of : (nfa : Automaton) (x : Search) (s : ℕ) → IsFirstStart nfa x s → (known : Option (Option Match))
    → IfSome known (λ found. IfNone found (MatchesNothing nfa (anchored_at x s)))
    → IfSome known (λ found. IfNone found (IsFirstStart nfa x (s + 1)))
next-of nfa x s first None nothing = tt
next-of nfa x s first (Some None) nothing = next-first nfa x s first nothing
next-of nfa x s first (Some (Some m)) nothing = tt

-- a search that is leftmost first, and a start before which nothing matches
pub record HasFirstStart (nfa : Automaton) (kind : MatchKind) (earliest : Bool) (x : Search) (s : ℕ) : Type 0 where
  pub leftmost : kind ≡ LeftmostFirst
  pub starts : StartsAnywhere nfa x
  pub last : earliest ≡ false
  pub first : IsFirstStart nfa x s

-- the answer of the anchored search at such a start, where it is that of the search
pub found-at-start : {nfa : Automaton} {kind : MatchKind} {earliest : Bool} {x : Search} {s : ℕ}
    → HasFirstStart nfa kind earliest x s → FirstStartMatches StartsAnywhere LeftmostFirst false
    → (known : Option (Option Match))
    → IfSome known (λ found. IsFindAnswer nfa kind earliest (anchored_at x s) (option_map found_of found))
    → IfSome known (λ found. IfSome found (λ m. IsFindAnswer nfa kind earliest x (Some (found_of m))))
found-at-start has matches None answers = tt
found-at-start has matches (Some None) answers = tt
found-at-start {nfa = nfa} {x = x} {s = s} has matches (Some (Some m)) answers =
    rw (has.leftmost, has.last) (matches nfa x s (found_of m) has.starts has.first
    (rw (has.leftmost, has.last) at answers))

-- a search keeps what a regex is made of
pub regex-kept : (patterns : List (List ℕ)) (old new : RegexState) → IsRegexOf patterns old → KeepsRegex old new
    → IsRegexOf patterns new
regex-kept patterns old new is kept = record {
  compiled = rw kept.engines.nfa is.compiled;
  anywhere = rw kept.engines.nfa is.anywhere;
  bound = rw kept.engines.nfa is.bound;
  leftmost = kept.engines.match_kind ∙ is.leftmost;
}
