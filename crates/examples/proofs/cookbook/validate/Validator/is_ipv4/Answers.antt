-- The search finds the pattern, which matches whole texts.
use Rattle.std.proofs.Common.{arith}
use Rattle.nfa_compiler.proofs.Denotes.{bytes-of, found-whole}
use Rattle.examples.specs.Shapes.{IsIpv4}
use Rattle.examples.specs.declared.cookbook.validate.TheConstants.{IPV4}
use Rattle.examples.proofs.ShapeLemmas.{ipv4}
use Rattle.examples.proofs.cookbook.validate.Validator.is_ipv4.Goals as goal

pub returns : goal.returns
returns c =
    let text = c.args.text.now in
    found-whole IPV4.now IsIpv4 ipv4 _ text _ c.self.invariant.2 c.is_match.ensures.finds
    (bytes-of text (λ k. omega (arith, c.type_inv.text k)))
