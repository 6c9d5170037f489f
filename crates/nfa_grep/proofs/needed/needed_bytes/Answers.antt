-- A line that is selected has a match, unless the selected lines are those without one.
use Rattle.nfa_paths.proofs.Common.{◌≡◌, List, ℕ, false, subst, sym, IfOk-weaker, whole}
use Rattle.nfa_compiler.specs.Common.{res_of}
use Rattle.nfa_grep.specs.Required.{AreRequired, OccursIn}
use Rattle.nfa_grep.proofs.PartLemmas.{occurs-none}
use Rattle.nfa_grep.proofs.NeededLemmas.{needed-of}
use Rattle.nfa_grep.proofs.needed.needed_bytes.Goals as goal

pub returns-then-options : goal.returns-then-options
returns-then-options c = λ res same line small selected.
    subst (λ (b : List ℕ). OccursIn line b) (sym c.new.ensures.items) (occurs-none line)

pub returns : goal.returns
returns c =
    let trees = res_of c.args.trees.now in
    let straight : c.args.options.inverted ≡ false = c.if-options.false in
    IfOk-weaker c.required_literal.result (λ needed. AreRequired trees needed.items) _
    (λ needed required. λ res same. needed-of c.args.options trees res needed.items same straight
    (λ text small some. c.hits_have_required_bytes.ensures trees needed.items required false
    (record (whole text) { start = 0 }) small some))
    c.required_literal.ensures
