-- Both laws, of the two matches.
use Rattle.std.proofs.Common.{false, option_map}
use Rattle.nfa_engines.specs.Found.{found_of}
use Rattle.nfa_engines.specs.Engines.{kind_of}
use Rattle.nfa_engines.specs.SpanLaws.{moved_match, IsOfWholeLines}
use Rattle.callers.specs.Texts.{line_of}
use Rattle.callers.proofs.places.whole_line_in_text.Goals as goal

pub returns : goal.returns
returns c =
    let x = line_of c.args.text.now c.args.start c.args.end in
    let nfa = c.args.vm.now.nfa in
    let alone = option_map found_of c.find_inside_and_alone.result.1 in
    let lines : IsOfWholeLines x =
    record { before = c.requires.before; after = c.requires.after; within = c.requires.within } in
    let alike = c.assertions_hold_alike.ensures.cut_out nfa x c.requires.lines lines c.requires.ordered in
    c.one_match.ensures.matches nfa x (kind_of c.args.vm.now) false _ (option_map (moved_match c.args.start) alone)
    c.find_inside_and_alone.ensures.inside
    (c.answers_read_span_and_assertions.ensures.cut_out_match nfa x (kind_of c.args.vm.now) false alone alike
    c.requires.anywhere c.requires.ordered c.find_inside_and_alone.ensures.alone)
