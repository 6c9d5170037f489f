-- An answer is that of each input that asks for the same search, and what is found in a line of a text.
use Rattle.std.proofs.Common.{◌≡◌, ℕ, ◌-◌, ◌≤◌, false, List, Option, take, drop, length, length-drop, subst, arith}
use Rattle.std.proofs.lemmas.List.{length-take-le}
use Rattle.nfa_engines.specs.Found.{Found}
use Rattle.nfa_engines.specs.Search.{Search, whole}
use Rattle.nfa_engines.specs.Anchored.TheVariants.{No}
use Rattle.nfa_engines.specs.MatchKind.{MatchKind}
use Rattle.nfa_engines.specs.Automaton.{Automaton}
use Rattle.nfa_engines.specs.Paths.{IsFindAnswer}
use Rattle.nfa_engines.specs.SpanLaws.{cut_out}
use Rattle.callers.specs.Texts.{line_of}

pub match_of_search : (nfa : Automaton) (kind : MatchKind) (x y : Search) (found : Option Found) → y ≡ x
    → IsFindAnswer nfa kind y.earliest y found → IsFindAnswer nfa kind x.earliest x found
match_of_search nfa kind x y found same h = subst (λ (z : Search). IsFindAnswer nfa kind z.earliest z found) same h

-- what is found in the line alone is found in what is cut out
pub of_cut : (nfa : Automaton) (kind : MatchKind) (text : List ℕ) (start end : ℕ) (found : Option Found) → start ≤ end
    → end ≤ length text → IsFindAnswer nfa kind false (whole (take (end - start) (drop start text))) found
    → IsFindAnswer nfa kind false (cut_out (line_of text start end)) found
of_cut nfa kind text start end found ordered within h =
    let rest = length-drop start text in
    let long = length-take-le (end - start) (drop start text) (omega arith) in
    subst (λ (n : ℕ). IsFindAnswer nfa kind false
    (record { haystack = take (end - start) (drop start text); start = 0; end = n; anchored = No; earliest = false })
    found) long h
