-- the list of the one pattern
use Rattle.nfa_paths.proofs.Common.{List, subst, All, IfOk, ◌≡◌, ◌==◌, ◌||◌}
use Rattle.nfa_compiler.specs.Common.{Parsed, res_of, all_begin_at_start, FitsIn}
use Rattle.nfa_compiler.proofs.compiler.Compiler.build_from_hir.Goals as goal

pub returns-clause-fits : goal.returns-clause-fits
returns-clause-fits c =
    subst (λ (ps : List Parsed). IfOk c.build_many_from_hir.result
    (λ _. All (FitsIn c.args.self.now.config.size_limit) (res_of ps)))
    c.from_ref.ensures.value c.build_many_from_hir.ensures.fits

pub returns-clause-bound : goal.returns-clause-bound
returns-clause-bound c =
    subst (λ (ps : List Parsed). IfOk c.build_many_from_hir.result (λ nfa. (nfa.anchored == nfa.unanchored)
    ≡ (c.args.self.now.config.anchored || all_begin_at_start (res_of ps))))
    c.from_ref.ensures.value c.build_many_from_hir.ensures.bound
