-- A match may end at the position.
use Rattle.nfa_paths.proofs.Common.{inl, inr, search_of, IsPermittedEnd}
use Rattle.nfa_lazy_dfa.proofs.overlap.add_here.Goals as goal

pub returns : goal.returns
returns c =
    let e = c.add_each.ensures in
    let permitted : IsPermittedEnd c.args.dfa.now.nfa (search_of c.args.input.now) c.args.at =
    c.may_end_at.ensures.counts c.if-not-may_end_at.false in
    record {
      capacity = e.capacity;
      gained = λ k. (
        λ h. elim ((e.gained k).0 h) [ inl o ↦ inl o | inr w ↦ inr (w.0, (permitted, w.1)) ],
        λ s. elim s [ inl o ↦ (e.gained k).1 (inl o) | inr w ↦ (e.gained k).1 (inr (w.0, w.1.1)) ],
      );
      some = λ m. let s = e.some m in (s.0, s.1, (permitted, s.2));
      none = λ m k less h. e.none m k less h.1;
    }
