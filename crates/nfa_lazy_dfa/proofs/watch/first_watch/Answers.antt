-- No match of the search starts before its start.
use Rattle.nfa_paths.proofs.Common.{rules, ◌≡◌, ◌*◌, ◌/◌, ◌∷◌, [], ◌∙◌, ℕ, ap, subst, arith, search_of}
use Rattle.nfa_lazy_dfa.proofs.RunLemmas.{few-at}
use Rattle.nfa_lazy_dfa.proofs.WatchLemmas.{IsBegun-start, IsFoundAt-place}
use Rattle.nfa_lazy_dfa.specs.Rows.{IsRowOf}
use Rattle.nfa_lazy_dfa.proofs.watch.first_watch.Goals as goal

pub overflow_mul-first : goal.overflow_mul-first
overflow_mul-first c =
    let few = few-at c.args.dfa.now c.args.cache.now (search_of c.args.input.now) c.args.begun.place c.requires.own
    c.requires.at.at in
    omega arith

pub watch_at-requires-clause-begun : goal.watch_at-requires-clause-begun
watch_at-requires-clause-begun c =
    IsBegun-start c.args.dfa.now.nfa (search_of c.args.input.now) c.args.begun.place.at c.requires.at.begins

pub returns-clause-watching : goal.returns-clause-watching
returns-clause-watching c =
    let dfa = c.args.dfa.now in
    let cache = c.args.cache.now in
    let x = search_of c.args.input.now in
    record {
      whole = omega arith;
      at = IsFoundAt-place dfa cache x c.args.begun.place c.requires.at.found c.requires.at.at;
      idle = c.likely_idle-idle.ensures.idle;
      begun = IsBegun-start dfa.nfa x c.args.begun.place.at c.requires.at.begins;
    }

pub returns-then-eq-clause-watching : goal.returns-then-eq-clause-watching
returns-then-eq-clause-watching c =
    let dfa = c.args.dfa.now in
    let cache = c.args.cache.now in
    let x = search_of c.args.input.now in
    let p = c.args.begun.place in
    let row : p.row * 256 / 256 ≡ p.row = omega arith in
    let same : c.args.begun.start ≡ dfa.nfa.anchored = search rules in
    record {
      whole = omega arith;
      at = IsFoundAt-place dfa cache x p c.requires.at.found c.requires.at.at;
      idle = record {
        alone = λ s whole is.
            c.requires.at.alone s (subst (λ (r : ℕ). IsRowOf cache r s) row is) ∙ ap (λ (q : ℕ). q ∷ []) same;
      };
      begun = IsBegun-start dfa.nfa x p.at c.requires.at.begins;
    }
