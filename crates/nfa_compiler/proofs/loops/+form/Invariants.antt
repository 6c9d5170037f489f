-- the form of the trees from the last one back
use Rattle.nfa_paths.proofs.Common.{◌≡◌, drop, map}
use Rattle.nfa_compiler.specs.Common.{alt_all, cat_all, meaning, form_of}
use Rattle.nfa_compiler.proofs.loops.+form.Given as goal

abbrev pub invariant-form_of_all-loop-index : goal.invariant-form_of_all-loop-index
invariant-form_of_all-loop-index l = l.all ≡ form_of (cat_all (map meaning (drop l.index l.subs)))

abbrev pub invariant-form_of_any-loop-index : goal.invariant-form_of_any-loop-index
invariant-form_of_any-loop-index l = l.any ≡ form_of (alt_all (map meaning (drop l.index l.subs)))
