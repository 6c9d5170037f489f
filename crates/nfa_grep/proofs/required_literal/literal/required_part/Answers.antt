-- The part is in all needles, of which each match has one.
use Rattle.std.proofs.Common.{All, List, ℕ, subst, IfSome, Option, Vec}
use Rattle.std.specs.declared.alloc.Global.{Global}
use Rattle.regex_extract.specs.Needles.{ContainsNeedle, needles_of}
use Rattle.regex_hir.specs.Meaning.{meaning}
use Rattle.nfa_grep.specs.Required.{OccursIn}
use Rattle.nfa_grep.proofs.PartLemmas.{required-of-needles}
use Rattle.nfa_grep.proofs.required_literal.literal.required_part.Goals as goal

pub returns-in-Some-clause-required : goal.returns-in-Some-clause-required
returns-in-Some-clause-required c =
    let re = meaning c.args.pattern.now.hir in
    let part = c.shared_by_all.result.now in
    let needles = c.in-Some.needles in
    let contains : ContainsNeedle re (needles_of needles) =
    subst (λ (o : Option (Vec (Vec ℕ Global) Global)). IfSome o (λ v. ContainsNeedle re (needles_of v))) c.in-Some.is
    c.in_ok-found.ensures.contains in
    let each : All (λ (needle : Vec ℕ Global). OccursIn needle.items part) needles.items =
    subst (λ (ns : List (Vec ℕ Global)). All (λ (needle : Vec ℕ Global). OccursIn needle.items part) ns)
    c.deref.ensures.value c.shared_by_all.ensures.each in
    required-of-needles re part needles contains each
