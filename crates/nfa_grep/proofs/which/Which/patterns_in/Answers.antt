-- The law, of this set.
use Rattle.nfa_paths.proofs.Common.{◌≡◌, ◌∙◌, ap, arith, false, length, refl, subst, sym, length-replicate, Search, search_of, whole, Automaton}
use Rattle.nfa_compiler.specs.Common.{IsNfaOf}
use Rattle.nfa_compiler.proofs.CallLemmas.{bytes-of}
use Rattle.nfa_grep.proofs.NumbersLemmas.{same-which, which-is}
use Rattle.nfa_grep.proofs.WhichLemmas.{as-all, held}
use Rattle.nfa_grep.proofs.which.Which.patterns_in.Goals as goal

pub returns-clause-held : goal.returns-clause-held
returns-clause-held c = λ res made k.
    let inv = c.self.invariant in
    let nfa = c.self.inside.vm.nfa in
    let text = c.args.text.now in
    let made-inside = subst (λ (a : Automaton). IsNfaOf res a) (sym c.self.view_is) made in
    let set = c.which_overlapping_matches.new.patterns in
    let sets = as-all nfa (search_of c.new-2.result) (whole text) _ _ _ _ c.new-2.ensures inv.1
    (ap (λ (s : Search). s.earliest) c.new-2.ensures)
    (rw c.in_ok-set.ensures at c.which_overlapping_matches.ensures.result) in
    held res nfa text made-inside inv.3 c.pattern_len.result c.pattern_len.ensures set k
    (c.sets_hold_patterns_that_match.ensures res nfa (whole text) _ _ made-inside inv.2 refl sets k)

pub returns-clause-found : goal.returns-clause-found
returns-clause-found c = λ options texts res built meant.
    let text = c.args.text.now in
    let bytes = bytes-of text (λ k. omega (arith, c.type_inv.text k)) in
    let trees = built.trees in
    let set = c.which_overlapping_matches.new.patterns in
    let made-inside = subst (λ (a : Automaton). IsNfaOf trees a) (sym c.self.view_is) built.made in
    let room : length set ≡ length trees =
    omega (
      arith,
      c.which_overlapping_matches.ensures.result.capacity,
      ap length c.in_ok-set.ensures,
      length-replicate c.pattern_len.result false,
      c.pattern_len.ensures,
      made-inside.patterns,
    ) in
    which-is text trees set room (λ k. returns-clause-held c trees built.made k)
    ∙ same-which text bytes trees res (built.same res meant)
