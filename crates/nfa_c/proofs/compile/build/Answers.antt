-- What was boxed is the regex that the builder made of the text of these bytes.
use Rattle.std.proofs.Common.{List, subst, sym, ◌∷◌, [], ℕ}
use Rattle.nfa_meta.specs.Built.{HasNotSearched, IsBuiltFrom}
use Rattle.nfa_meta.specs.RegexState.{RegexState}
use Rattle.nfa_c.proofs.compile.build.Goals as goal

pub returns-in-Ok-boxed-clause-made : goal.returns-in-Ok-boxed-clause-made
returns-in-Ok-boxed-clause-made c =
    let b = c.args.builder.now in
    let regex = c.in-Ok-build.regex in
    let same = sym c.in-Ok-boxed.ensures.regex in
    let built : IsBuiltFrom b (c.args.pattern.now ∷ []) regex.choice.nfa =
    subst (λ (text : List ℕ). IsBuiltFrom b (text ∷ []) regex.choice.nfa) c.in-Ok.ensures.cases.0
    c.in-Ok-build.ensures.built in
    record {
      built = subst (λ (made : RegexState). IsBuiltFrom b (c.args.pattern.now ∷ []) made.choice.nfa) same built;
      engines = subst (HasNotSearched b.config) same c.in-Ok-build.ensures.engines;
      row = c.in-Ok-boxed.ensures.row;
    }
