-- A match that known cells lead to.
use Rattle.nfa_paths.proofs.Common.{ℕ, Bool, false, Option, None, Some, IfSome, found_of, Search, Match, MatchKind, Automaton, IsFindAnswer, LeftmostFirst}
use Rattle.nfa_engines.specs.StartLaws.{FirstStartMatches, StartsAnywhere, anchored_at}
use Rattle.nfa_meta.proofs.AnchoredLemmas.{HasFirstStart}

-- the match of the anchored search at a start before which nothing matches is that of the search
pub match-at-start : {nfa : Automaton} {kind : MatchKind} {earliest : Bool} {x : Search} {s : ℕ}
    → HasFirstStart nfa kind earliest x s → FirstStartMatches StartsAnywhere LeftmostFirst false
    → (known : Option Match)
    → IfSome known (λ m. IsFindAnswer nfa kind earliest (anchored_at x s) (Some (found_of m)))
    → IfSome known (λ m. IsFindAnswer nfa kind earliest x (Some (found_of m)))
match-at-start has matches None answers = tt
match-at-start {nfa = nfa} {x = x} {s = s} has matches (Some m) answers =
    rw (has.leftmost, has.last) (matches nfa x s (found_of m) has.starts has.first
    (rw (has.leftmost, has.last) at answers))
