-- The slots that sure steps over the span of a match write, and captures that are made of slots.
use Rattle.std.proofs.lemmas.Option.{IfSome_then}
use Rattle.nfa_paths.proofs.Common.{◌≡◌, ◌<◌, ℕ, Bool, false, List, length, replicate, sym, subst, Option, None, Some, IfNone, IfSome, option_map, number_of, Found, PatternID, Search, MatchKind, LeftmostFirst, Automaton, IsAutomaton, IsAnswer, IsFindAnswer}
use Rattle.nfa_paths.proofs.InsideLemmas.{pattern-within, slots-within}
use Rattle.nfa_engines.specs.SpanLaws.{cut_to}
use Rattle.nfa_facts.specs.StatePaths.{RecordsMatchSpans}
use Rattle.nfa_search_base.specs.Common.{Captured}
use Rattle.nfa_search_base.proofs.SpanLemmas.{spans-inside}
use Rattle.nfa_choice.specs.Answered.{FillsCaptures, WritesSlots}
use Rattle.nfa_onepass.specs.Ways.{IsOnly}
use Rattle.nfa_onepass.specs.OnlyLaws.{OnlyIsAnswer}

module _ (nfa : Automaton) (kind : MatchKind) (x : Search) (slots : List (Option ℕ)) (found : Option PatternID) where
  -- they are those of the search that found it
  pub groups-answer : OnlyIsAnswer → (y : Search) (m : Found) → kind ≡ LeftmostFirst → x.earliest ≡ false
      → y ≡ cut_to x m.start m.end x.anchored → IsAutomaton nfa → RecordsMatchSpans nfa
      → IsFindAnswer nfa kind x.earliest x (Some m)
      → IfSome found (λ p. IsOnly nfa y (number_of p) slots)
      → IfSome found (λ p. IsAnswer nfa kind x.earliest x (Some (number_of p)) slots)
  groups-answer law y m first latest is valid records answer only =
      IfSome_then found only (λ p o.
      subst (λ (b : Bool). IsAnswer nfa kind b x (Some (number_of p)) slots) (sym latest)
      (rw first (law nfa x m (number_of p) slots valid records
      (rw first at (subst (λ (b : Bool). IsFindAnswer nfa kind b x (Some m)) latest answer)) (rw is at o))))

  -- they are in the span, and the pattern is one of the NFA
  pub groups-write : (old : List (Option ℕ)) → IsAutomaton nfa
      → IfSome found (λ p. IsAnswer nfa kind x.earliest x (Some (number_of p)) slots)
      → IfSome found (λ _. WritesSlots nfa x found old slots)
  groups-write old valid answer = of found answer
    where
      of : (o : Option PatternID)
          → IfSome o (λ p. IsAnswer nfa kind x.earliest x (Some (number_of p)) slots)
          → IfSome o (λ _. WritesSlots nfa x o old slots)
      of None h = tt
      of (Some p) h = record {
        unmatched = tt;
        pattern = pattern-within nfa kind x.earliest valid x (Some (number_of p)) slots h;
        inside = slots-within nfa kind x.earliest x (Some (number_of p)) slots h;
      }

-- The slots that sure steps over a whole span write are those of the answer, if they tell one. They are in the span,
-- and the pattern is one of the NFA.
module _ (nfa : Automaton) (kind : MatchKind) (x : Search) (slots : List (Option ℕ))
    (answer : Option (Option PatternID)) where
  pub whole-answers : kind ≡ LeftmostFirst → x.earliest ≡ false
      → IfSome answer (λ found. IsAnswer nfa LeftmostFirst false x (option_map number_of found) slots)
      → IfSome answer (λ found. IsAnswer nfa kind x.earliest x (option_map number_of found) slots)
  whole-answers first latest told =
      IfSome_then answer told (λ found a.
      subst (λ (b : Bool). IsAnswer nfa kind b x (option_map number_of found) slots) (sym latest) (rw first a))

  pub whole-writes : (old : List (Option ℕ)) → IsAutomaton nfa
      → IfSome answer (λ found. IsAnswer nfa kind x.earliest x (option_map number_of found) slots)
      → IfSome answer (λ found. IfNone found (slots ≡ replicate (length old) None))
      → IfSome answer (λ found. WritesSlots nfa x found old slots)
  whole-writes old valid told unmatched = of answer told unmatched
    where
      of : (o : Option (Option PatternID))
          → IfSome o (λ found. IsAnswer nfa kind x.earliest x (option_map number_of found) slots)
          → IfSome o (λ found. IfNone found (slots ≡ replicate (length old) None))
          → IfSome o (λ found. WritesSlots nfa x found old slots)
      of None a unset = tt
      of (Some None) a unset = record {
        unmatched = unset;
        pattern = tt;
        inside = slots-within nfa kind x.earliest x None slots a;
      }
      of (Some (Some p)) a unset = record {
        unmatched = tt;
        pattern = pattern-within nfa kind x.earliest valid x (Some (number_of p)) slots a;
        inside = slots-within nfa kind x.earliest x (Some (number_of p)) slots a;
      }

-- what holds of a pattern holds of its number
if-none : (P : Type 0) (o : Option PatternID) → IfNone o P → IfNone (option_map number_of o) P
if-none P None h = h
if-none P (Some p) h = tt

if-some : (P : ℕ → Type 0) (o : Option PatternID) → IfSome o (λ p. P (number_of p)) → IfSome (option_map number_of o) P
if-some P None h = tt
if-some P (Some p) h = h

-- captures that have the slots that a search wrote, and its pattern
pub captures-fill : (nfa : Automaton) (x : Search) (found : Option PatternID) (old new : Captured)
    → new.groups ≡ old.groups → length new.slots ≡ length old.slots → new.pattern ≡ option_map number_of found
    → WritesSlots nfa x found old.slots new.slots → FillsCaptures nfa x old new
captures-fill nfa x found old new groups count is writes = record {
  groups = groups;
  count = count;
  unmatched = rw is (if-none _ found writes.unmatched);
  pattern = rw is (if-some (λ p. p < length nfa.patterns) found writes.pattern);
  inside = writes.inside;
  spans = spans-inside x new writes.inside;
}
