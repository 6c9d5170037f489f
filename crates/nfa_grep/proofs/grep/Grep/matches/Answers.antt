-- The law, of these matches.
use Rattle.nfa_paths.proofs.Common.{◌∙◌, ap, arith, map, refl, subst, sym, found_of, Search, whole}
use Rattle.nfa_compiler.proofs.CallLemmas.{bytes-of}
use Rattle.nfa_grep.specs.Meant.{Grepping, Mean}
use Rattle.nfa_grep.proofs.MeantLemmas.{spans-of-all, spans-same}
use Rattle.nfa_grep.proofs.grep.Grep.matches.Goals as goal

pub returns-clause-all : goal.returns-clause-all
returns-clause-all c = λ res meant.
    let text = c.args.text.now in
    let nfa = c.self.inside.regex.choice.nfa in
    let bytes = bytes-of text (λ k. omega (arith, c.type_inv.text k)) in
    let searched = c.self.invariant.0 in
    let meant-inside = subst (λ (g : Grepping). Mean g res) (sym c.self.view_is) meant in
    spans-of-all searched.built.trees nfa text searched.free (map found_of c.in-Ok.matches.items) searched.built.made
    (λ some made.
    c.iterations_find_all_hits.ensures.matches some nfa _ _ (whole text) _ made searched.anywhere (record {
      leftmost = rw searched.leftmost refl;
      latest = ap (λ (s : Search). s.earliest) c.new.ensures;
      whole = refl;
    }) (rw c.new.ensures at c.in-Ok.ensures.lists.all))
    ∙ spans-same text bytes searched.built.trees res (searched.built.same res meant-inside)
