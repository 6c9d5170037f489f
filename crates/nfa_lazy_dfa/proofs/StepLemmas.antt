-- Steps and matches of a list, a state at a time.
use Rattle.nfa_paths.proofs.Common.{arith, ◌≡◌, ℕ, ◌+◌, ◌<◌, List, [], ◌∷◌, ◌++◌, length, get_or, take, drop, refl, ap, sym, ◌∙◌, append-nil, append_assoc, Option, None, Some, is_some, true, false, option_and_then, option_map, option_to_list, option_or, drop_more, take_more, number_of, PatternID, Automaton, Node, LeadsBelow, node_at, target_on, ◌-◌}
use Rattle.nfa_paths.proofs.StartLemmas.{node_at-get}
use Rattle.nfa_scan_core.proofs.TargetLemmas.{target-below}
use Rattle.nfa_lazy_dfa.specs.Closures.{state_pattern, first_pattern, last_pattern, before_first_match, step}

-- a pattern, and its number
pub number-some : (o : Option PatternID) → is_some o ≡ true → is_some (option_map number_of o) ≡ true
number-some o e = grind arith

pub number-none : (o : Option PatternID) → is_some o ≡ false → option_map number_of o ≡ None
number-none o e = grind arith

number-or : (o p : Option PatternID)
    → option_map number_of (option_or o p) ≡ option_or (option_map number_of o) (option_map number_of p)
number-or o p = grind arith

-- where a byte leads is a state
pub stepped-below : (n t : ℕ) (node : Node) (byte : Option ℕ) → LeadsBelow n node
    → Some t ≡ option_and_then (target_on node) byte → t < n
stepped-below n t node byte leads e = grind (arith, target-below)

module _ (nfa : Automaton) (xs : List ℕ) (i : ℕ) (s : ℕ) (inside : i < length xs) (is : s ≡ get_or xs i s) where
  -- the list from a place on is its state and the rest
  drop-here : drop i xs ≡ s ∷ drop (i + 1) xs
  drop-here = drop_more xs i s inside ∙ ap (λ t. t ∷ drop (i + 1) xs) (sym is)

  take-here : take (i + 1) xs ≡ take i xs ++ s ∷ []
  take-here = take_more xs i s inside ∙ ap (λ t. take i xs ++ t ∷ []) (sym is)

  pub first-none : state_pattern nfa s ≡ None → first_pattern nfa (drop (i + 1) xs) ≡ first_pattern nfa (drop i xs)
  first-none none = rw drop-here (rw none refl)

  pub first-some : is_some (state_pattern nfa s) ≡ true → first_pattern nfa (drop i xs) ≡ state_pattern nfa s
  first-some some = rw drop-here (grind arith)

  pub last-more : (p o : Option PatternID) → option_map number_of p ≡ state_pattern nfa s
      → option_or (last_pattern nfa (drop (i + 1) xs)) (option_map number_of (option_or p o))
      ≡ option_or (last_pattern nfa (drop i xs)) (option_map number_of o)
  last-more p o e = rw drop-here (grind (arith, number-or))

  pub before-none : state_pattern nfa s ≡ None
      → take (i + 1) xs ++ before_first_match nfa (drop (i + 1) xs)
      ≡ take i xs ++ before_first_match nfa (drop i xs)
  before-none none =
      rw (drop-here, take-here) (rw none
      (append_assoc (take i xs) (s ∷ []) (before_first_match nfa (drop (i + 1) xs))))

  pub before-some : is_some (state_pattern nfa s) ≡ true → before_first_match nfa (drop i xs) ≡ []
  before-some some = rw drop-here (rw some refl)

  pub step-more : (byte : Option ℕ) (next : List ℕ) (o : Option ℕ)
      → o ≡ option_and_then (target_on (node_at nfa s)) byte
      → (next ++ option_to_list o) ++ step nfa byte (drop (i + 1) xs) ≡ next ++ step nfa byte (drop i xs)
  step-more byte next o e =
      rw (drop-here, e) (append_assoc next (option_to_list (option_and_then (target_on (node_at nfa s)) byte))
      (step nfa byte (drop (i + 1) xs)))

-- what the loops that look for the first Match cite
pub ruleset first_steps = (number-some, number-none, first-none, first-some, node_at-get)

pub ruleset before_steps = (number-some, number-none, before-none, before-some, append-nil, node_at-get)
