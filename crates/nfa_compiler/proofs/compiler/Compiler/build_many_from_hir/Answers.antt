-- what was made of the patterns is the NFA
use Rattle.nfa_paths.proofs.Common.{no-flaw, ◌≡◌, ◌∙◌, ◌<◌, ℕ, Bool, true, false, inl, inr, ap, arith, refl, subst, sym, All, ◌==◌, and_right, cases_Bool, nat_tests, Automaton}
use Rattle.nfa_compiler.specs.Common.{IsNfaOf, res_of, all_begin_at_start}
use Rattle.nfa_compiler.proofs.AddLemmas.{nodes-length, built-valid}
use Rattle.nfa_compiler.proofs.CompiledLemmas.{nfa-made}
use Rattle.nfa_compiler.proofs.UnboundLemmas.{only-at-start}
use Rattle.nfa_compiler.proofs.compiler.Compiler.build_many_from_hir.Goals as goal

pub returns-clause-made : goal.returns-clause-made
returns-clause-made c =
    subst (IsNfaOf (res_of c.args.patterns.now)) (sym c.in-Ok.ensures.1)
    (nfa-made _ _ c.args.patterns.now _ c.in_ok-starts.ensures.count c.in_ok-groups.ensures.groups
    c.in_ok-starts.ensures.made c.in_ok-anchored.ensures.added
    (rw c.deref.ensures.value at c.in_ok-anchored.ensures.chooses)
    (omega (arith, c.in_ok-anchored.ensures.within, nodes-length c.choice.new.states))
    c.in_ok-unanchored.ensures.added)

pub returns-clause-anywhere : goal.returns-clause-anywhere
returns-clause-anywhere c =
    λ off. and_right _ _ (ap (λ (n : Automaton). n.utf8) c.in-Ok.ensures.1 ∙ off)

-- the starts are one exactly if the NFA was to be bound
bound-is : (nfa made : Automaton) (count : ℕ) (b : Bool) → nfa ≡ made → made.anchored < count
    → (b ≡ true → made.unanchored ≡ made.anchored) → (b ≡ false → made.unanchored ≡ count)
    → (nfa.anchored == nfa.unanchored) ≡ b
bound-is nfa made count b e less same past = grind (arith, nat_tests)

pub returns-clause-bound : goal.returns-clause-bound
returns-clause-bound c =
    bound-is _ _ _ _ c.in-Ok.ensures.1 c.in_ok-anchored.ensures.within c.in_ok-unanchored.ensures.bound
    c.in_ok-unanchored.ensures.free
    ∙ c.binds-is_bound.ensures

pub returns-clause-free : goal.returns-clause-free
returns-clause-free c = λ off. elim (cases_Bool (all_begin_at_start (res_of c.args.patterns.now))) [
  | inl all ↦ inr (only-at-start (res_of c.args.patterns.now) _ (returns-clause-made c) all)
  | inr some ↦ inl (returns-clause-bound c ∙ rw (off, some) refl)
]

pub unreachable-requires : goal.unreachable-requires
unreachable-requires c =
    no-flaw (record {
      states = _;
      anchored = _;
      unanchored = _;
      patterns = _;
      groups = _;
      has_empty = false;
      utf8 = false;
    }) c.in-Err.ensures.0
    (built-valid _ _ c.args.patterns.now _ c.in_ok-groups.ensures.groups c.in_ok-starts.ensures.count
    c.in_ok-starts.ensures.range c.in_ok-anchored.ensures.range c.in_ok-unanchored.ensures.range
    c.in_ok-anchored.ensures.added c.in_ok-unanchored.ensures.added
    (subst (λ n. All (λ s. s < n) c.in_ok-starts.starts.items) (nodes-length c.add_patterns.new.states)
    c.in_ok-starts.ensures.inside)
    (omega (arith, c.in_ok-anchored.ensures.within, nodes-length c.choice.new.states))
    (omega (arith, c.in_ok-unanchored.ensures.within, nodes-length c.unanchored.new.states)))
    c.in-Err.ensures.1
