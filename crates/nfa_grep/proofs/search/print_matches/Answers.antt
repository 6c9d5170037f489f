-- What is printed after the lines was printed.
use Rattle.nfa_paths.proofs.Common.{Appends, Appends-trans, rules, ◌≡◌, ◌∙◌, ℕ, ◌++◌, List, ap, subst, IfSome_then}
use Rattle.nfa_grep.specs.Printed.{printed_if, summary}
use Rattle.nfa_grep.proofs.search.print_matches.Goals as goal

pub returns-clause-printed : goal.returns-clause-printed
returns-clause-printed g c = λ res meant.
    let request = c.args.request in
    let options = c.args.grep.now.options in
    let last = c.append_summary.new.out.items in
    let name-is : c.as_bytes.result.now ≡ request.name.now = search rules in
    let same : c.options.result ≡ options = search rules in
    let last-is : last ≡ summary request.report options request.name.now c.in_ok-count.count =
    rw (c.new-last.ensures.items, same, name-is) at c.in_ok-append_summary.ensures in
    let before = g.W.Write.contents c.args.out.now in
    let middle = g.W.Write.contents c.print_lines.new.out in
    let after = g.W.Write.contents c.write_bytes.new.out in
    let appends : Appends middle after last = rw c.deref.ensures.value at c.in_ok-write_bytes.ensures in
    IfSome_then (g.R.Read.remaining c.args.input.now) (c.in_ok-count.ensures.printed res meant) (λ text lines.
    let all = printed_if request.report options res request.name.now request.context request.used request.limit text
    in (
      subst (λ (l : List ℕ). Appends before after (all ++ l))
          (last-is ∙ ap (summary request.report options request.name.now) lines.1)
          (Appends-trans before middle after all last lines.0 appends),
      lines.1,
    ))

pub returns-clause-stops : goal.returns-clause-stops
returns-clause-stops g c = λ res meant.
    IfSome_then (g.R.Read.remaining c.args.input.now) (c.in_ok-count.ensures.printed res meant) (λ text lines. lines.2)
