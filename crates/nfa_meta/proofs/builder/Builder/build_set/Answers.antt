-- The set is that of the NFA that was made.
use Rattle.std.proofs.Common.{◌≡◌, ◌∙◌, ap, List, map, subst, sym, ℕ, Bor}
use Rattle.nfa_paths.specs.Common.{Automaton}
use Rattle.nfa_meta.specs.Built.{IsBuiltFrom}
use Rattle.nfa_meta.specs.RegexSets.{SetState}
use Rattle.nfa_meta.proofs.builder.Builder.build_set.Goals as goal

pub returns-in-Ok-from_parts-clause-built : goal.returns-in-Ok-from_parts-clause-built
returns-in-Ok-from_parts-clause-built c =
    let texts : List (List ℕ) = map (λ (text : Bor (List ℕ)). text.now) c.args.patterns.now in
    let same : c.with_texts.result.engine.nfa ≡ c.in_ok-nfa.nfa =
    ap (λ (made : SetState). made.engine.nfa) c.with_texts.ensures ∙ c.in-Ok-from_parts.ensures.nfa in
    subst (λ (nfa : Automaton). IsBuiltFrom c.args.self.now texts nfa) (sym same) c.in_ok-nfa.ensures.built
