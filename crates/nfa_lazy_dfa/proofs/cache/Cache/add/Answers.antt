-- One row more, of which no cell is known.
use Rattle.nfa_paths.proofs.Common.{rules, ◌≡◌, ◌<◌, ◌+◌, ◌∷◌, ◌++◌, List, [], length, ap, sym, ◌∙◌, subst, arith, None, slice_get, sum_by, length-map, sum_by_push}
use Rattle.nfa_lazy_dfa.specs.Firsts.{AreFirsts}
use Rattle.nfa_lazy_dfa.specs.Rows.{AreRows, IsFor, row_memory_of, stances_of, unknown}
use Rattle.nfa_lazy_dfa.specs.Stances.{Stance, stance_of}
use Rattle.nfa_lazy_dfa.proofs.FirstLemmas.{AreFirsts-add}
use Rattle.nfa_lazy_dfa.proofs.RowLemmas.{AreRows-add, get-left, stances-more}
use Rattle.nfa_lazy_dfa.proofs.cache.Cache.add.Goals as goal

pub returns-clause-own : goal.returns-clause-own
unfolding IsFor
returns-clause-own c =
    let self = c.args.self.now in
    let nfa = c.args.dfa.now.nfa in
    let kind = c.args.dfa.now.kind in
    let old = stances_of self.stands.items in
    let t = stance_of c.args.stand in
    let stands : c.append.new.stands.items ≡ self.stands.items ++ c.args.stand ∷ [] = search rules in
    let cells : c.append.new.cells.items ≡ self.cells.items ++ unknown = search rules in
    let ends : c.append.new.ends.items ≡ self.ends.items ++ None ∷ [] = search rules in
    let all : length old ≡ length self.stands.items = length-map self.stands.items stance_of in
    let few : length old < 0x20_0000 = omega (arith, self.stands.ok.0, c.requires.few) in
    let more = ap stances_of stands ∙ stances-more self.stands.items c.args.stand in
    record {
      rows = rw (cells, ends) (subst (λ (s : List Stance).
          AreRows nfa kind s (self.cells.items ++ unknown) (self.ends.items ++ None ∷ [])) (sym more)
          (AreRows-add nfa kind old self.cells.items self.ends.items c.requires.own.rows t c.requires.below few));
      firsts = subst (λ (s : List Stance). AreFirsts c.args.dfa.now.nfa.anchored s self.firsts) (sym more)
          (AreFirsts-add c.args.dfa.now.nfa.anchored old self.firsts c.requires.own.firsts t);
      taken =
          let total : sum_by row_memory_of (stances_of c.append.new.stands.items)
          ≡ sum_by row_memory_of old + row_memory_of t =
          ap (sum_by row_memory_of) more ∙ sum_by_push row_memory_of old t in
          omega (arith, total, c.requires.taken, c.requires.own.taken);
      fits = c.requires.room;
    }

pub returns-clause-keeps : goal.returns-clause-keeps
returns-clause-keeps c = λ row s is.
    let self = c.args.self.now in
    let stands : c.append.new.stands.items ≡ self.stands.items ++ c.args.stand ∷ [] = search rules in
    ap (λ (t : List Stance). slice_get t row) (ap stances_of stands ∙ stances-more self.stands.items c.args.stand)
    ∙ get-left (stances_of self.stands.items) (stance_of c.args.stand ∷ []) row s is

pub returns-in_err-append-clause-own : goal.returns-in_err-append-clause-own
unfolding IsFor
returns-in_err-append-clause-own c =
    let self = c.args.self.now in
    let cells : c.append.new.cells.items ≡ self.cells.items = search rules in
    let stands : c.append.new.stands.items ≡ self.stands.items = search rules in
    let ends : c.append.new.ends.items ≡ self.ends.items = search rules in
    record {
      rows = rw (cells, stands, ends) c.requires.own.rows;
      firsts = rw stands c.requires.own.firsts;
      taken = rw stands c.requires.own.taken;
      fits = c.requires.own.fits;
    }
