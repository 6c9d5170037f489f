-- The row is interned, and remembering it changes no row.
use Rattle.std.proofs.Common.{◌∙◌, List, ap, slice_get, arith, rules}
use Rattle.nfa_lazy_dfa.specs.Rows.{IsRowOf, stances_of}
use Rattle.nfa_lazy_dfa.specs.Stances.{first_stance}
use Rattle.nfa_lazy_dfa.proofs.WorkLemmas.{Spends-both}
use Rattle.nfa_lazy_dfa.specs.declared.follow.Stand.{Stand}
use Rattle.nfa_lazy_dfa.proofs.cache.Cache.begin.Goals as goal

pub returns : goal.returns
returns c =
    let row : IsRowOf c.intern.new.self c.in_ok-row.row (first_stance c.args.start c.args.before c.args.more) =
    search rules in
    record {
      own = c.remember.ensures.own;
      row = ap (λ (s : List Stand). slice_get (stances_of s) c.in_ok-row.row) c.remember.ensures.same ∙ row;
      spends = Spends-both c.args.self.now c.intern.new.self c.remember.new.self 0 0 1 0 (search rules)
          c.remember.ensures.spends;
      full = search rules;
      small = λ less. absurd (omega arith);
    }
