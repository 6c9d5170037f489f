-- The tree of the text is as what the text means, and stays so if both are bounded.
use Rattle.nfa_paths.proofs.Common.{subst, sym}
use Rattle.nfa_compiler.proofs.MeantLemmas.{meant}
use Rattle.nfa_compiler.specs.Common.{meaning, SameCaptures, Config, Parsed, IsTreeOf}
use Rattle.nfa_grep.specs.Meant.{bounded, syntax_of, Re}
use Rattle.nfa_grep.proofs.PatternLemmas.{bounded-alike}
use Rattle.nfa_grep.proofs.pattern.read_tree.Goals as goal

pub returns-in-Ok-bounded : goal.returns-in-Ok-bounded
returns-in-Ok-bounded c = λ re means.
    let options = c.args.options in
    let tree : Parsed = c.in-Ok.field-0 in
    let read : IsTreeOf c.syntax_of.result c.args.text.now tree =
    record { reads = c.in-Ok.ensures.ok; formed = c.in-Ok.ensures.formed } in
    let alike = meant (syntax_of options) c.args.text.now tree re
    (subst (λ (s : Config). IsTreeOf s c.args.text.now tree) c.syntax_of.ensures read) means in
    subst (λ (r : Re). SameCaptures r (bounded options.bounds re)) (sym c.in-Ok-bounded.ensures)
    (bounded-alike options.bounds (meaning tree.hir) re alike)
