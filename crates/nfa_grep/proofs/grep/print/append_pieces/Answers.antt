-- All matches were printed.
use Rattle.nfa_paths.proofs.Common.{flat_map-map, ◌∙◌, ◌++◌, List, ap, arith, map, sym, take_all, flat_map, found_of, Match}
use Rattle.nfa_grep.specs.Meant.{span_of}
use Rattle.nfa_grep.specs.Printed.{piece}
use Rattle.nfa_grep.proofs.grep.print.append_pieces.Goals as goal

pub returns : goal.returns
returns c =
    let ms = c.args.matches.now in
    let place = c.args.place in
    let one = piece c.args.options place.end place.name.now c.args.mark.now place.number place.offset c.args.line.now in
    let all = take_all c.loop-found.found-index ms (omega (arith, c.loop-found-test.false)) in
    c.loop-found.invariant
    ∙ ap (λ (l : List Match). c.args.out.now.items ++ flat_map (λ m. one (span_of (found_of m))) l) all
    ∙ ap (λ l. c.args.out.now.items ++ l) (sym (flat_map-map one span_of (map found_of ms)
    ∙ flat_map-map (λ m. one (span_of m)) found_of ms))
