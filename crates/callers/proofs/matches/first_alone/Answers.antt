-- One call gives the first match.
use Rattle.std.proofs.Common.{refl, subst, List, [], ◌∷◌, map, Option, None, Some, IfSome}
use Rattle.regex_search_core.specs.Found.{found_of}
use Rattle.regex_search_core.specs.Search.{search_of}
use Rattle.nfa_engines.specs.Engines.{kind_of}
use Rattle.nfa_engines.specs.Lists.{AreFirstMatches}
use Rattle.nfa_engines.specs.PikeVMIterators.{pike_matches_next}
use Rattle.nfa_engines.specs.Runs.{GivesNext}
use Rattle.callers.proofs.matches.first_alone.Goals as goal

-- an item of the first call is the first element
first : {T R : Type 0} (steps : T → Option R → T → Type 0) (P : List R → Type 0) (s u : T) (o : Option R)
    → GivesNext steps P s → steps s o u → IfSome o (λ m. P (m ∷ []))
first steps P s u None next step = tt
first steps P s u (Some m) next step = next [] s m u refl step

pub returns : goal.returns
returns c =
    let nfa = c.args.vm.now.nfa in
    let kind = kind_of c.args.vm.now in
    let x = search_of c.new.result in
    subst (λ y. IfSome c.next.result (λ m. AreFirstMatches nfa kind y.earliest y (found_of m ∷ []))) c.new.ensures
    (first pike_matches_next (λ ms. AreFirstMatches nfa kind x.earliest x (map found_of ms)) c.find_iter-items.result
    c.next.new.self c.next.result c.find_iter-items.ensures.given.next c.next.ensures.steps)
