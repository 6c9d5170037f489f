-- From the law on sets of patterns to which patterns match in a line.
use Rattle.nfa_paths.proofs.Common.{◌≡◌, ℕ, zero, suc, ◌<◌, ◌⊎◌, inr, ⊎_elim, Bool, true, false, List, length, refl, subst, arith, ◌↔◌, ◌==◌, replicate, length-replicate, Search, whole, MatchKind, Automaton, HoldsPattern, IsOverlapResult}
use Rattle.nfa_compiler.specs.Common.{Re, FindsFromAnyStart, IsNfaOf, PatternMatches}
use Rattle.regex_search_core.specs.declared.search.MatchKind.TheVariants.{All}
use Rattle.nfa_compiler.proofs.UnboundLemmas.{loses-none, matches-unbound}

-- a set of `All` that is not asked for the earliest match
pub as-all : (nfa : Automaton) (x y : Search) (kind : MatchKind) (b : Bool) (old new : List Bool) → x ≡ y → kind ≡ All
    → b ≡ false → IsOverlapResult nfa x kind b old new → IsOverlapResult nfa y All false old new
as-all nfa x y kind b old new same all off r =
    subst (λ (s : Search). IsOverlapResult nfa s All false old new) same
    (subst (λ (c : Bool). IsOverlapResult nfa x All c old new) off
    (subst (λ (k : MatchKind). IsOverlapResult nfa x k b old new) all r))

no : false ≡ true → ⊥
no e = cc

none-held : (n k : ℕ) → HoldsPattern (replicate n false) k → ⊥
none-held zero k e = no e
none-held (suc n) zero e = no e
none-held (suc n) (suc k) e = none-held n k e

-- an empty set with room for each pattern comes to hold those that match
pub held : (res : List Re) (nfa : Automaton) (text : List ℕ) → IsNfaOf res nfa
    → FindsFromAnyStart nfa → (n : ℕ) → n ≡ length nfa.patterns → (new : List Bool) (k : ℕ)
    → (HoldsPattern new k ↔ (HoldsPattern (replicate n false) k ⊎ ((k < length (replicate n false))
    × PatternMatches res (nfa.anchored == nfa.unanchored) (whole text) k)))
    → HoldsPattern new k ↔ PatternMatches res false (whole text) k
held res nfa text made free n room new k h = (
  (λ there. ⊎_elim (λ bad. absurd (none-held n k bad))
      (λ found. (matches-unbound res nfa (whole text) k refl (loses-none res nfa made free text)).0 found.1)
      (h.0 there)),
  λ found. h.1 (inr (
    omega (arith, found.known, made.patterns, room, length-replicate n false),
    (matches-unbound res nfa (whole text) k refl (loses-none res nfa made free text)).1 found,
  )),
)
