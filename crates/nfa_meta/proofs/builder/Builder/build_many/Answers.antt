-- The regex is that of the NFA that was made.
use Rattle.std.proofs.Common.{List, map, subst, sym, ℕ, Bor}
use Rattle.nfa_meta.specs.Built.{IsBuiltFrom}
use Rattle.nfa_meta.specs.RegexState.{RegexState}
use Rattle.nfa_meta.proofs.builder.Builder.build_many.Goals as goal

pub returns-in-Ok-clause-built : goal.returns-in-Ok-clause-built
returns-in-Ok-clause-built c =
    let texts : List (List ℕ) = map (λ (text : Bor (List ℕ)). text.now) c.args.patterns.now in
    subst (λ (made : RegexState). IsBuiltFrom c.args.self.now texts made.choice.nfa) (sym c.in-Ok.ensures.made)
    c.in_ok-nfa.ensures.built
