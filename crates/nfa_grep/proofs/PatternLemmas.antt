-- From what the parser and the compiler return to what texts mean, and to why patterns are refused.
use Rattle.regex_syntax.proofs.CapturesLemmas.{alike_cat, alike_refl}
use Rattle.nfa_paths.proofs.Common.{AllZip-long, ◌≡◌, Bool, List, [], ◌∷◌, false, true, ℕ, MatchOption, None, Option, Some, AllZip, Automaton, inl, inr, length, sym, subst, arith, ◌==◌, cases_Bool}
use Rattle.nfa_grep.specs.Meant.{ArePatterns, IsBuilt, IsReadFrom, bounded, word_start, Options, Re, IsOfPatterns, IsRefusalBy, IsTreeRefusal, described}
use Rattle.grep_options.specs.declared.options.Bounds.{Bounds}
use Rattle.grep_options.specs.declared.options.Bounds.TheVariants.{Anywhere, Words, Line}
use Rattle.nfa_compiler.specs.declared.error.CompileError.{CompileError}
use Rattle.nfa_compiler.specs.Common.{look, Start, SameCaptures, Parsed, IsNfaOf, res_of}
use Rattle.nfa_grep.specs.declared.fault.Fault.{Fault}

-- patterns that match alike still do if their matches are bounded
pub bounded-alike : (bounds : Bounds) (a b : Re) → SameCaptures a b → SameCaptures (bounded bounds a) (bounded bounds b)
bounded-alike Anywhere a b same = same
bounded-alike Words a b same =
    alike_cat (alike_refl word_start) (alike_cat same (alike_refl _))
bounded-alike Line a b same = alike_cat (alike_refl (look Start)) (alike_cat same (alike_refl _))

-- the trees of all texts
pub trees-alike : (options : Options) (texts : List (List ℕ)) (trees : List Parsed) (res : List Re)
    → AllZip (IsReadFrom options) texts trees → ArePatterns options texts res → AllZip SameCaptures (res_of trees) res
trees-alike options [] [] [] read are = tt
trees-alike options [] [] (re ∷ res) read are = absurd are
trees-alike options [] (tree ∷ trees) res read are = absurd read
trees-alike options (text ∷ texts) [] res read are = absurd read
trees-alike options (text ∷ texts) (tree ∷ trees) [] read are = absurd are
trees-alike options (text ∷ texts) (tree ∷ trees) (re ∷ res) read are =
    (read.0 re are.0, trees-alike options texts trees res read.1 are.1)

-- an NFA of the trees
module _ (options : Options) (texts : List (List ℕ)) (trees : List Parsed)
    (read : AllZip (IsReadFrom options) texts trees) where
  pub built : (Made : List Re → Automaton → Type 0) (nfa : Automaton) → Made (res_of trees) nfa
      → IsBuilt Made options texts nfa
  built Made nfa made =
      record { trees = res_of trees; made = made; same = λ res are. trees-alike options texts trees res read are }

  pub which-built : (wanted : Bool) (which : Option Automaton)
      → MatchOption which (wanted ≡ false) (λ nfa. (wanted ≡ true) × IsNfaOf (res_of trees) nfa)
      → MatchOption which (wanted ≡ false) (λ nfa. (wanted ≡ true) × IsBuilt IsNfaOf options texts nfa)
  which-built wanted None none = none
  which-built wanted (Some nfa) some = (some.0, built IsNfaOf nfa some.1)

is-one : (n : ℕ) → (n == 1) ≡ true → n ≡ 1
is-one n same = grind arith

-- the fault is made of the error
pub refusal : (Q : CompileError → Type 0) (n : ℕ) (e : CompileError) (f : Fault) → f ≡ described n e → Q e
    → IsRefusalBy Q n f
refusal Q n e f is of =
    subst (IsRefusalBy Q n) (sym is) (elim (cases_Bool (n == 1)) [
      | inl one ↦ rw one (is-one n one, of)
      | inr other ↦ rw other (other, of)
    ])

-- the fault of trees that were read from these texts
pub trees-refusal : (options : Options) (texts : List (List ℕ)) (trees : List Parsed) (f : Fault)
    → AllZip (IsReadFrom options) texts trees → IsTreeRefusal (length trees) (res_of trees) f
    → IsOfPatterns options texts f
trees-refusal options texts trees f read of = record {
  trees = trees;
  read = read;
  refused = subst (λ (k : ℕ). IsTreeRefusal k (res_of trees) f) (AllZip-long (IsReadFrom options) texts trees read) of;
}
