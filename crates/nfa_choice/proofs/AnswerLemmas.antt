-- The pattern of a half match is one of the NFA's.
use Rattle.nfa_paths.proofs.Common.{◌∙◌, Bool, ap, sym, ◌<◌, IfSome, None, Option, Some, length, option_map, HalfFound, half_found_of, Search, HalfMatch, MatchKind, Automaton, IsAutomaton, IsHalfAnswer, slot_row}
use Rattle.nfa_paths.proofs.InsideLemmas.{pattern-within}
use Rattle.nfa_paths.proofs.PatternLemmas.{length-slot_row}
use Rattle.nfa_paths.proofs.RestartLemmas.{half-pattern}

pub half-pattern-within : (nfa : Automaton) (kind : MatchKind) (earliest : Bool) (x : Search) → IsAutomaton nfa
    → (half : Option HalfMatch) → IsHalfAnswer nfa kind earliest x (option_map half_found_of half)
    → IfSome half (λ m. (half_found_of m).pattern < length nfa.patterns)
half-pattern-within nfa kind earliest x valid None h = tt
half-pattern-within nfa kind earliest x valid (Some m) h =
    pattern-within nfa kind earliest valid x (Some (half_found_of m).pattern) (slot_row nfa 0 h.path)
    (record {
      restarts = h.restarts;
      path = h.path;
      answers = h.answers;
      pattern_is = ap (option_map (λ (f : HalfFound). f.pattern)) h.found_is ∙ half-pattern nfa h.path;
      slots_are = ap (λ n. slot_row nfa n h.path) (sym (length-slot_row nfa 0 h.path));
    })
