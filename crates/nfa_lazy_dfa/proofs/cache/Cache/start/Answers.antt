-- A row that is remembered fits.
use Rattle.std.proofs.Common.{arith, rules}
use Rattle.nfa_lazy_dfa.specs.Stances.{first_stance}
use Rattle.nfa_lazy_dfa.proofs.CacheLemmas.{row-fits}
use Rattle.nfa_lazy_dfa.proofs.cache.Cache.start.Goals as goal

pub returns-in-Some : goal.returns-in-Some
returns-in-Some c =
    let first = first_stance c.args.start c.args.before c.args.more in
    let is = c.in-Some.ensures in
    record {
      own = c.requires.own;
      row = is;
      spends = search rules;
      full = search rules;
      small = λ less.
          let fits = row-fits c.args.self.now c.args.dfa.now c.requires.own _ first is in
          absurd (omega arith);
    }
