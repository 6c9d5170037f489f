-- The row is that of such a search.
use Rattle.std.proofs.Common.{ℕ, ap, ◌∙◌, Some}
use Rattle.nfa_lazy_dfa.specs.Rows.{IsFor, stances_of}
use Rattle.nfa_lazy_dfa.specs.Stances.{first_stance}
use Rattle.nfa_lazy_dfa.proofs.FirstLemmas.{AreFirsts-set}
use Rattle.nfa_lazy_dfa.proofs.cache.Cache.remember.Goals as goal

pub returns-in-Some-clause-own : goal.returns-in-Some-clause-own
unfolding IsFor
returns-in-Some-clause-own c =
    let self = c.args.self.now in
    let dfa = c.args.dfa.now in
    record {
      rows = c.requires.own.rows;
      firsts = AreFirsts-set dfa.nfa.anchored (stances_of self.stands.items) self.firsts c.requires.own.firsts
          c.args.before c.args.more c.in-Some.place c.args.row c.in-Some.ensures.place
          (c.requires.row
          ∙ ap (λ (s : ℕ). Some (first_stance s c.args.before c.args.more)) c.in-Some.ensures.start);
      taken = c.requires.own.taken;
      fits = c.requires.own.fits;
    }
