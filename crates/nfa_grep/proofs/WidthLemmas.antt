-- The width of numbers changes neither what texts mean nor which lines are selected.
use Rattle.nfa_paths.proofs.Common.{ℕ, List, [], ◌∷◌, false, true, ◌≡◌, Option, None, Some, MatchOption, Automaton}
use Rattle.nfa_choice.specs.ChoiceState.{ChoiceState}
use Rattle.nfa_compiler.specs.Common.{IsNfaOf}
use Rattle.nfa_grep.specs.Meant.{ArePatterns, IsBuilt, IsSearched, Options, Re}
use Rattle.nfa_grep.specs.Printed.{AreNeeded}

-- the options with this width
abbrev pub wide : Options → ℕ → Options
wide options width = record options { width = width }

module _ (options : Options) (width : ℕ) where
  meant : (texts : List (List ℕ)) (res : List Re) → ArePatterns (wide options width) texts res
      → ArePatterns options texts res
  meant [] [] are = tt
  meant [] (re ∷ res) are = absurd are
  meant (text ∷ texts) [] are = absurd are
  meant (text ∷ texts) (re ∷ res) are = (
    record { inner = are.0.inner; reads = are.0.reads; is_bounded = are.0.is_bounded },
    meant texts res are.1,
  )

  module _ (texts : List (List ℕ)) where
    built : (Made : List Re → Automaton → Type 0) (nfa : Automaton) → IsBuilt Made options texts nfa
        → IsBuilt Made (wide options width) texts nfa
    built Made nfa is = record { trees = is.trees; made = is.made; same = λ res are. is.same res (meant texts res are) }

    pub searched-wide : (regex : ChoiceState) → IsSearched options texts regex
        → IsSearched (wide options width) texts regex
    searched-wide regex is = record {
      built = built _ regex.nfa is.built;
      anywhere = is.anywhere;
      free = is.free;
      leftmost = is.leftmost;
    }

    pub which-wide : (which : Option Automaton)
        → MatchOption which (options.which ≡ false)
        (λ nfa. (options.which ≡ true) × IsBuilt IsNfaOf options texts nfa)
        → MatchOption which (options.which ≡ false)
        (λ nfa. (options.which ≡ true) × IsBuilt IsNfaOf (wide options width) texts nfa)
    which-wide None none = none
    which-wide (Some nfa) some = (some.0, built IsNfaOf nfa some.1)

    pub needed-wide : (bytes : List ℕ) → AreNeeded options texts bytes → AreNeeded (wide options width) texts bytes
    needed-wide bytes needed = record { each = λ res are. needed.each res (meant texts res are) }
