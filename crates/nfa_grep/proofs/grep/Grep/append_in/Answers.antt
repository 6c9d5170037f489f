-- The line was printed, with its matches.
use Rattle.nfa_paths.proofs.Common.{◌∙◌, List, ap, map, on_ok_weaker, found_of, Match}
use Rattle.nfa_grep.specs.Meant.{span_of}
use Rattle.nfa_grep.proofs.PaintedLemmas.{line-shown-by}
use Rattle.nfa_grep.proofs.grep.Grep.append_in.Goals as goal

pub returns-clause-shown : goal.returns-clause-shown
returns-clause-shown c =
    on_ok_weaker c.append_record.result (λ appended. λ res meant.
    let all = rw c.text_of-text.ensures at (c.in_ok-matches.ensures.all res meant) in
    line-shown-by c.args.self.now.options c.options-options.result c.args.colours c.line_colour.result
    c.match_colour.result c.args.end res c.args.line.now c.text_of-text.result.now (map found_of c.deref.result.now)
    c.args.out.now.items c.append_matched.new.out.items _ c.options-options.ensures c.line_colour.ensures
    c.match_colour.ensures c.text_of-text.ensures
    (ap (λ (ms : List Match). map span_of (map found_of ms)) c.deref.ensures.value ∙ all)
    c.in_ok-append_matched.ensures appended)
    c.append_record.ensures
