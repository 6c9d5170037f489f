-- The search finds the pattern, which matches whole texts.
use Rattle.std.proofs.Common.{arith}
use Rattle.nfa_compiler.proofs.Denotes.{bytes-of, found-whole}
use Rattle.examples.specs.Shapes.{IsVersion}
use Rattle.examples.specs.declared.cookbook.validate.TheConstants.{VERSION}
use Rattle.examples.proofs.ShapeLemmas.{version}
use Rattle.examples.proofs.cookbook.validate.Validator.is_version.Goals as goal

pub returns : goal.returns
returns c =
    let text = c.args.text.now in
    found-whole VERSION.now IsVersion version _ text _ c.self.invariant.1 c.is_match.ensures.finds
    (bytes-of text (λ k. omega (arith, c.type_inv.text k)))
