-- The answers of both searches, of the line and of what is cut out.
use Rattle.std.proofs.Common.{◌∙◌, ◌-◌, option_map, take, drop, ap}
use Rattle.nfa_engines.specs.Found.{found_of}
use Rattle.nfa_engines.specs.Search.{Search, whole}
use Rattle.nfa_engines.specs.Engines.{kind_of}
use Rattle.callers.specs.Texts.{line_of}
use Rattle.callers.proofs.PathStateLemmas.{match_of_search, of_cut}
use Rattle.callers.proofs.places.find_inside_and_alone.Goals as goal

pub returns-clause-inside : goal.returns-clause-inside
returns-clause-inside c =
    match_of_search c.args.vm.now.nfa (kind_of c.args.vm.now)
    (line_of c.args.text.now c.args.start c.args.end) _ (option_map found_of c.find-inside.result)
    (c.range-line.ensures
    ∙ ap (λ (z : Search). record z { start = c.args.start; end = c.args.end }) c.new-all.ensures)
    c.find-inside.ensures.answer

pub returns-clause-alone : goal.returns-clause-alone
returns-clause-alone c =
    let alone = option_map found_of c.find-alone.result in
    of_cut c.args.vm.now.nfa (kind_of c.args.vm.now) c.args.text.now c.args.start c.args.end alone c.requires.ordered
    c.requires.within
    (match_of_search c.args.vm.now.nfa (kind_of c.args.vm.now)
    (whole (take (c.args.end - c.args.start) (drop c.args.start c.args.text.now))) _ alone c.new-cut.ensures
    c.find-alone.ensures.answer)
