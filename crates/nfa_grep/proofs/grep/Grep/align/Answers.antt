-- The width is part of no clause of the invariant.
use Rattle.std.proofs.Common.{map}
use Rattle.nfa_grep.proofs.WidthLemmas.{needed-wide, searched-wide, which-wide}
use Rattle.nfa_grep.proofs.grep.Grep.align.Goals as goal

pub invariant_of-self : goal.invariant_of-self
invariant_of-self c =
    let options = c.self.inside.options in
    let texts = map (λ text. text.now) c.self.inside.patterns.now in
    let is = c.self.invariant in (
      searched-wide options c.args.width texts _ is.0,
      which-wide options c.args.width texts _ is.1,
      needed-wide options c.args.width texts _ is.2,
    )
