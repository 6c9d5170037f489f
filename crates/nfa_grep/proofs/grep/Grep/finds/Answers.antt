-- The law, of this answer.
use Rattle.nfa_paths.proofs.Common.{◌∙◌, arith, refl, subst, sym, whole}
use Rattle.nfa_compiler.proofs.CallLemmas.{bytes-of}
use Rattle.nfa_grep.specs.Meant.{Grepping, Mean}
use Rattle.nfa_grep.proofs.MeantLemmas.{found-of-all, found-same}
use Rattle.nfa_grep.proofs.grep.Grep.finds.Goals as goal

pub returns-clause-found : goal.returns-clause-found
returns-clause-found c = λ res meant.
    let text = c.args.text.now in
    let nfa = c.self.inside.regex.choice.nfa in
    let bytes = bytes-of text (λ k. omega (arith, c.type_inv.text k)) in
    let searched = c.self.invariant.0 in
    let meant-inside = subst (λ (g : Grepping). Mean g res) (sym c.self.view_is) meant in
    found-of-all searched.built.trees nfa text searched.free c.is_match.result searched.built.made (λ some made.
    c.searches_find_hits.ensures.found some nfa _ _ (whole text) _ made searched.anywhere (record {
      leftmost = rw searched.leftmost refl;
      latest = refl;
      whole = refl;
    }) (rw c.new.ensures at c.is_match.ensures.answer))
    ∙ found-same text bytes searched.built.trees res (searched.built.same res meant-inside)
