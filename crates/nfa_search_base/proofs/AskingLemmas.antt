-- What holds along the calls of a finder, and what callers of an engine learn of the numbers in an answer.
use Rattle.nfa_paths.proofs.Common.{arith, List, [], ◌∷◌, refl, Search, ◌≡◌, ℕ, length, ap, ◌∙◌, Option, Some, None, Bool, option_map, replicate, IfSome, IfNone, ◌<◌, ◌≤◌, found_of, half_found_of, number_of, PatternID, HalfMatch, Match, MatchKind, Automaton, IsAutomaton, IsAnswer, IsHalfAnswer, IsFindAnswer}
use Rattle.nfa_search_base.specs.Common.{SameButStart, ServesOn, LeadsOn, ServesOnAlong, IsInside}
use Rattle.nfa_paths.proofs.InsideLemmas.{half-within, match-within, match-pattern, pattern-within}
use Rattle.nfa_paths.proofs.PatternLemmas.{slots-unset}

-- each search is the same as itself
pub same_start-self : (s : Search) → SameButStart s s
same_start-self s = record { haystack = refl; end = refl; anchored = refl; earliest = refl }

-- and the same as one that is the same as its like
pub same_start-then : (s t u : Search) → SameButStart s t → SameButStart t u → SameButStart s u
same_start-then s t u a b = grind arith

-- What holds along calls on searches that differ only in their start.
module _ {S R : Type 0} (accepts : S → Search → Type 0) (asks : S → Search → R → S → Type 0) {s t : Search}
    (same : SameButStart s t) where
  -- calls on searches like t are calls on searches like s
  LeadsOn-from : (f : S) (calls : List (Search × R)) (f' : S)
      → LeadsOn accepts asks SameButStart t f calls f' → LeadsOn accepts asks SameButStart s f calls f'
  LeadsOn-from f [] f' leads = leads
  LeadsOn-from f (x ∷ calls) f' leads =
      (leads.0, (same_start-then s t x.0 same leads.1.0, leads.1.1), LeadsOn-from leads.0 calls f' leads.2)

module _ {S R : Type 0} {accepts : S → Search → Type 0} {asks : S → Search → R → S → Type 0} where
  module _ {P : Search → R → Type 0} {f : S} {s : Search} (serves : ServesOnAlong accepts asks SameButStart P f s)
      {t : Search} (same : SameButStart s t) where
    -- the same from a search like it
    pub Along-same : ServesOnAlong accepts asks SameButStart P f t
    Along-same = record {
      at = λ calls f' u leads like. serves.at calls f' u (LeadsOn-from accepts asks same f calls f' leads)
          (same_start-then s t u same like);
    }

    -- the next call
    pub Along-now : ServesOn accepts asks P f t
    Along-now = serves.at [] f t refl same

    -- after a call
    pub Along-call : {reply : R} {f' : S} → asks f t reply f' → ServesOnAlong accepts asks SameButStart P f' s
    Along-call {reply = reply} {f' = f'} asked = record {
      at = λ calls f'' u leads like. serves.at ((t, reply) ∷ calls) f'' u (f', (same, asked), leads) like;
    }

  -- what holds of each reply may be weakened
  pub Along-weaker : {P Q : Search → R → Type 0} {f : S} {s : Search}
      → ((t : Search) (reply : R) → P t reply → Q t reply)
      → ServesOnAlong accepts asks SameButStart P f s → ServesOnAlong accepts asks SameButStart Q f s
  Along-weaker weaker serves = record {
    at = λ calls f' t leads same.
        let now = serves.at calls f' t leads same in
        record { callable = now.callable; replies = λ reply q asked. weaker t reply (now.replies reply q asked) };
  }

-- if an invariant of the state holds now and after each call, what it implies holds along the calls
module _ {S R : Type 0} {accepts : S → Search → Type 0} {asks : S → Search → R → S → Type 0}
    {P : Search → R → Type 0} where
  pub ServesOnAlong-by : (Inv : S → Type 0) (f : S) (s : Search) → Inv f
      → ((q : S) (t : Search) → SameButStart s t → Inv q → accepts q t)
      → ((q : S) (t : Search) (reply : R) (q' : S) → SameButStart s t → Inv q → asks q t reply q' → P t reply × Inv q')
      → ServesOnAlong accepts asks SameButStart P f s
  ServesOnAlong-by Inv f s now may says = record {
    at = λ calls f' t leads same.
        let inv : Inv f' = kept calls f f' now leads in
        record {
          callable = may f' t same inv;
          replies = λ reply q asked. (says f' t reply q same inv asked).0;
        };
  }
    where
      kept : (calls : List (Search × R)) (q q' : S) → Inv q → LeadsOn accepts asks SameButStart s q calls q' → Inv q'
      kept [] q q' inv leads = rw (← leads) inv
      kept (x ∷ calls) q q' inv leads =
          kept calls leads.0 q' (says q x.0 x.1 leads.0 leads.1.0 inv leads.1.1).1 leads.2

module _ (nfa : Automaton) (kind : MatchKind) (earliest : Bool) (x : Search) where
  pub inside-of : (r : Option Match) → IsFindAnswer nfa kind earliest x (option_map found_of r)
      → IfSome r (λ m. IsInside x (found_of m))
  inside-of None h = tt
  inside-of (Some m) h =
      let k = match-within nfa kind earliest x (found_of m) h in record { from = k.0; ordered = k.1; to = k.2 }

  pub half-lies : (r : Option HalfMatch) → IsHalfAnswer nfa kind earliest x (option_map half_found_of r)
      → IfSome r (λ m. (x.start ≤ (half_found_of m).offset) × ((half_found_of m).offset ≤ x.end))
  half-lies None h = tt
  half-lies (Some m) h = half-within nfa kind earliest x (half_found_of m) h

  pub pattern-of : IsAutomaton nfa → (r : Option Match) → IsFindAnswer nfa kind earliest x (option_map found_of r)
      → IfSome r (λ m. (found_of m).pattern < length nfa.patterns)
  pattern-of valid None h = tt
  pattern-of valid (Some m) h = match-pattern nfa kind earliest valid x (found_of m) h

module _ {nfa : Automaton} {kind : MatchKind} {earliest : Bool} {x : Search} {slots : List (Option ℕ)} where
  pub slots-pattern : IsAutomaton nfa → (r : Option PatternID)
      → IsAnswer nfa kind earliest x (option_map number_of r) slots → IfSome r (λ p. number_of p < length nfa.patterns)
  slots-pattern valid None a = tt
  slots-pattern valid (Some p) a = pattern-within nfa kind earliest valid x (Some (number_of p)) slots a

  -- after no match no slot is set
  pub slots-none : {n : ℕ} (pattern : Option ℕ) → IsAnswer nfa kind earliest x pattern slots → length slots ≡ n
      → IfNone pattern (slots ≡ replicate n None)
  slots-none None a size = slots-unset nfa kind earliest x slots a ∙ ap (λ k. replicate k None) size
  slots-none (Some p) a size = tt

  -- the same for a pattern that is not yet a number
  pub slots-none_of : {n : ℕ} (r : Option PatternID) → IsAnswer nfa kind earliest x (option_map number_of r) slots
      → length slots ≡ n → IfNone r (slots ≡ replicate n None)
  slots-none_of None a size = slots-none None a size
  slots-none_of (Some p) a size = tt
