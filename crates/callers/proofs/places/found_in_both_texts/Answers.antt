-- Both laws, of the two matches.
use Rattle.std.proofs.Common.{Bool, option_map, subst}
use Rattle.nfa_engines.specs.Found.{found_of}
use Rattle.nfa_engines.specs.Search.{search_of}
use Rattle.nfa_engines.specs.Engines.{kind_of}
use Rattle.nfa_engines.specs.Paths.{IsFindAnswer}
use Rattle.nfa_engines.proofs.SpanLemmas.{same-moved, same-bytes}
use Rattle.callers.proofs.places.found_in_both_texts.Goals as goal

pub returns : goal.returns
returns c =
    let x = search_of c.args.input in
    let y = search_of c.args.other in
    let nfa = c.args.vm.now.nfa in
    let kind = kind_of c.args.vm.now in
    let one = option_map found_of c.find-found.result in
    let two = option_map found_of c.find-same.result in
    let alike = c.assertions_hold_alike.ensures.sides nfa 0 x y c.requires.bytes c.args.input.within
    c.args.other.within (same-moved x y c.requires.span) (same-bytes x y c.requires.span) c.requires.sides in
    c.one_match.ensures.matches nfa y kind x.earliest one two
    (c.answers_read_span_and_assertions.ensures.same_match nfa x y kind x.earliest one alike c.requires.anywhere
    c.requires.span c.find-found.ensures.answer)
    (subst (λ (flag : Bool). IsFindAnswer nfa kind flag y two) c.requires.flag c.find-same.ensures.answer)
