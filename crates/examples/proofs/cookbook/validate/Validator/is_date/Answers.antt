-- The search finds the pattern, which matches whole texts.
use Rattle.std.proofs.Common.{arith}
use Rattle.nfa_compiler.proofs.Denotes.{bytes-of, found-whole}
use Rattle.examples.specs.Shapes.{IsDate}
use Rattle.examples.specs.declared.cookbook.validate.TheConstants.{DATE}
use Rattle.examples.proofs.ShapeLemmas.{date}
use Rattle.examples.proofs.cookbook.validate.Validator.is_date.Goals as goal

pub returns : goal.returns
returns c =
    let text = c.args.text.now in
    found-whole DATE.now IsDate date _ text _ c.self.invariant.0 c.is_match.ensures.finds
    (bytes-of text (λ k. omega (arith, c.type_inv.text k)))
