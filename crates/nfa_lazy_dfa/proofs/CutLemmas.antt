-- Bytes that are treated alike lead to the same row.
use Rattle.nfa_paths.proofs.Common.{inl, ◌≡◌, ℕ, suc, ◌+◌, ◌<◌, ◌&&◌, Bool, List, [], ◌∷◌, ◌++◌, length, get_or, refl, ap, sym, ◌∙◌, subst, arith, Option, Some, option_to_list, slice_get, MatchKind, Automaton, In, first_target, holds_byte, node_at, target_on, Transition}
use Rattle.nfa_lazy_dfa.specs.Closures.{kept, pattern_by_kind, step}
use Rattle.nfa_lazy_dfa.specs.Assertions.{HasNoLook, sees}
use Rattle.nfa_lazy_dfa.specs.Cuts.{IsAlike}
use Rattle.nfa_lazy_dfa.specs.Rows.{LeadsTo, stances_of}
use Rattle.nfa_lazy_dfa.specs.Stances.{Covers, IsNext, Stance, goes_on, here, hit_here, patterns_for, start_if}
use Rattle.nfa_lazy_dfa.proofs.AssertionLemmas.{reads-none, same-none}
use Rattle.nfa_lazy_dfa.proofs.StanceLemmas.{closure-same}
use Rattle.nfa_lazy_dfa.specs.declared.cache.Cache.{Cache}
use Rattle.nfa_lazy_dfa.specs.declared.dfa.DFA.{DFA}
use Rattle.nfa_lazy_dfa.specs.declared.follow.Stand.{Stand}

pub first-alike : (ts : List Transition) (k : ℕ)
    → ((j : ℕ) (d : Transition) → j < length ts → holds_byte (get_or ts j d) k ≡ holds_byte (get_or ts j d) (k + 1))
    → first_target ts k ≡ first_target ts (k + 1)
first-alike [] k all = refl
first-alike (t ∷ ts) k all =
    let now : holds_byte t k ≡ holds_byte t (k + 1) = all 0 t (omega arith) in
    let rest : first_target ts k ≡ first_target ts (k + 1) =
    first-alike ts k (λ j d less. all (suc j) d (omega arith)) in
    rw (now, rest) refl

module _ (nfa : Automaton) (looks : Bool) (a b : ℕ) (alike : IsAlike nfa looks a b) where
  pub alike-back : IsAlike nfa looks b a
  alike-back = record { none = alike.none; targets = λ s. sym (alike.targets s) }

  step-alike : (states : List ℕ) → step nfa (Some a) states ≡ step nfa (Some b) states
  step-alike [] = refl
  step-alike (s ∷ states) =
      ap (λ (o : Option ℕ). option_to_list o ++ step nfa (Some a) states) (alike.targets s)
      ∙ ap (λ (more : List ℕ). option_to_list (target_on (node_at nfa s) b) ++ more) (step-alike states)

  pub next-alike : HasNoLook nfa → (kind : MatchKind) (s t : Stance) → IsNext nfa kind s a t → IsNext nfa kind s b t
  next-alike none kind s t next =
      let same : here nfa s (Some a) ≡ here nfa s (Some b) =
      closure-same nfa (sees s.before (Some a)) (sees s.before (Some b))
      (same-none nfa none (sees s.before (Some a)) (sees s.before (Some b))) s.states in
      let hit : hit_here nfa kind s (Some a) ≡ hit_here nfa kind s (Some b) = ap (pattern_by_kind nfa kind) same in
      let same-step : step nfa (Some b) (kept nfa kind (here nfa s (Some b)))
      ≡ step nfa (Some a) (kept nfa kind (here nfa s (Some a))) =
      sym (ap (λ (h : List ℕ). step nfa (Some a) (kept nfa kind h)) same
      ∙ step-alike (kept nfa kind (here nfa s (Some b)))) in
      record {
        read = inl (reads-none nfa none);
        hit = next.hit ∙ hit;
        hits = next.hits ∙ ap (patterns_for nfa kind) same;
        more = next.more ∙ ap (λ (o : Option ℕ). s.more && goes_on kind o) hit;
        states = subst (λ (states : List ℕ). Covers nfa t.states (states ++ start_if nfa t.more))
            (ap (λ (h : List ℕ). step nfa (Some a) (kept nfa kind h)) same
            ∙ step-alike (kept nfa kind (here nfa s (Some b)))) next.states;
        held = λ q i. next.held q (subst (In q) same-step i);
        before = λ after read. same-none nfa none (sees t.before after) (sees (Some b) after);
      }

-- so the cell of one is that of the other
pub leads-alike : (dfa : DFA) (c : Cache) (row a b target : ℕ) → IsAlike dfa.nfa dfa.looks a b
    → LeadsTo dfa c c row a target → LeadsTo dfa c c row b target
leads-alike dfa c row a b target alike leads = record {
  from = leads.from;
  was = leads.was;
  to = leads.to;
  is = leads.is;
  next = next-alike dfa.nfa dfa.looks a b alike (dfa.looks_are alike.none) dfa.kind leads.from leads.to leads.next;
}

-- rows that stand for the same lead alike
pub leads-same : (dfa : DFA) (c d : Cache) (row byte target : ℕ) → d.stands.items ≡ c.stands.items
    → LeadsTo dfa c c row byte target → LeadsTo dfa d d row byte target
leads-same dfa c d row byte target same leads = record {
  from = leads.from;
  was = ap (λ (s : List Stand). slice_get (stances_of s) row) same ∙ leads.was;
  to = leads.to;
  is = ap (λ (s : List Stand). slice_get (stances_of s) target) same ∙ leads.is;
  next = leads.next;
}
