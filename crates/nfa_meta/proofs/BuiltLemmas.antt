-- What is true of an NFA is true of it with another line terminator, and with fewer captures.
use Rattle.nfa_paths.proofs.Common.{◌≡◌, ◌==◌, ℕ, Bool, MatchBool, true, false, subst, sym, Automaton}
use Rattle.thompson_nfa.specs.Automaton.{nfa_with_terminator}
use Rattle.nfa_facts.specs.declared.captures.which.WhichCaptures.{WhichCaptures}
use Rattle.nfa_facts.specs.declared.captures.which.WhichCaptures.TheVariants as which
use Rattle.nfa_meta.specs.Built.{HasCaptures, HasLines}

pub lines-of : (terminator : ℕ) (Is : Automaton → Type 0) (plain nfa : Automaton) → Is plain
    → HasLines terminator (λ a. a ≡ plain) nfa → HasLines terminator Is nfa
lines-of terminator Is plain nfa holds = of (terminator == 10)
  where
    of : (feed : Bool)
        → MatchBool feed (nfa ≡ plain)
        ((a : Automaton) × (a ≡ plain) × (nfa ≡ nfa_with_terminator terminator a))
        → MatchBool feed (Is nfa) ((a : Automaton) × Is a × (nfa ≡ nfa_with_terminator terminator a))
    of true is = subst Is (sym is) holds
    of false is = (is.0, subst Is (sym is.1) holds, is.2)

pub captures-of : (kept : WhichCaptures) (Is : Automaton → Type 0) (whole nfa : Automaton) → Is whole
    → HasCaptures kept (λ a. a ≡ whole) nfa → HasCaptures kept Is nfa
captures-of which.All Is whole nfa holds is = subst Is (sym is) holds
captures-of which.Implicit Is whole nfa holds is = (is.0, subst Is (sym is.1) holds, is.2)
captures-of which.None Is whole nfa holds is = (is.0, subst Is (sym is.1) holds, is.2)
