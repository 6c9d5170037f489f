-- Both NFAs are made of the trees that were read from the texts, and the bytes are in each line that these select.
use Rattle.nfa_paths.proofs.Common.{map, refl, err_from_is_err_and}
use Rattle.nfa_compiler.specs.Common.{res_of}
use Rattle.nfa_grep.proofs.PatternLemmas.{trees-alike, which-built, trees-refusal}
use Rattle.nfa_grep.proofs.grep.Grep.of_trees.Goals as goal

pub invariant_of-result : goal.invariant_of-result
invariant_of-result c =
    let texts = map (λ text. text.now) c.args.patterns.now in
    let trees = c.args.trees.now in
    let read = c.requires in (
      rw c.in_ok-regex.ensures.made (record {
        built = record {
          trees = res_of trees;
          made = c.in_ok-nfa.ensures.made;
          same = λ res are. trees-alike c.args.options texts trees res read are;
        };
        anywhere = c.in_ok-nfa.ensures.anywhere;
        free = c.in_ok-nfa.ensures.free;
        leftmost = refl;
      }),
      which-built c.args.options texts trees read c.args.options.which c.in_ok-which.which c.in_ok-which.ensures.made,
      record { each = λ res are. c.in_ok-needed.ensures res (trees-alike c.args.options texts trees res read are) },
    )

pub returns-in_err-nfa-clause-refused : goal.returns-in_err-nfa-clause-refused
returns-in_err-nfa-clause-refused c =
    let texts = map (λ text. text.now) c.args.patterns.now in
    let p = err_from_is_err_and c.from_residual.result c.from_residual.ensures.1 in
    rw (p.1, p.2) (trees-refusal c.args.options texts c.args.trees.now _ c.requires c.in_err-nfa.ensures.refused)

pub returns-in_err-which-clause-refused : goal.returns-in_err-which-clause-refused
returns-in_err-which-clause-refused c =
    let texts = map (λ text. text.now) c.args.patterns.now in
    let p = err_from_is_err_and c.from_residual-in_err-which.result c.from_residual-in_err-which.ensures.1 in
    rw (p.1, p.2) (trees-refusal c.args.options texts c.args.trees.now _ c.requires c.in_err-which.ensures.refused)
