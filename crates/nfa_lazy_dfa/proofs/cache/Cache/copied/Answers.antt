-- The lists are the same, and so are the counts.
use Rattle.nfa_paths.proofs.Common.{rules, ◌≡◌, same_from_all_zip}
use Rattle.nfa_lazy_dfa.specs.Rows.{IsFor, stances_of}
use Rattle.nfa_lazy_dfa.proofs.cache.Cache.copied.Goals as goal

pub returns : goal.returns
unfolding IsFor
returns c =
    let self = c.args.self.now in
    let cells : c.in_ok-clone.field-0.items ≡ self.cells.items = search (rules, same_from_all_zip) in
    let ends : c.in_ok-clone-2.field-0.items ≡ self.ends.items = search (rules, same_from_all_zip) in
    let rows : stances_of c.in_ok-copied_stands.field-0.items ≡ stances_of self.stands.items = search rules in
    record {
      own = λ dfa own. record {
        rows = rw (cells, rows, ends) own.rows;
        firsts = rw rows own.firsts;
        taken = rw rows own.taken;
        fits = own.fits;
      };
      rows = rows;
      memory = search rules;
      scans = search rules;
      steps = search rules;
      made = search rules;
      clears = search rules;
      stops = search rules;
    }
