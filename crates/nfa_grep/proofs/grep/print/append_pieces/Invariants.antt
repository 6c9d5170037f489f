-- What is printed of the matches so far was appended.
use Rattle.nfa_paths.proofs.Common.{◌≡◌, ◌++◌, take, flat_map, found_of}
use Rattle.nfa_grep.specs.Meant.{span_of}
use Rattle.nfa_grep.specs.Printed.{piece}
use Rattle.nfa_grep.proofs.grep.print.append_pieces.Given as goal

abbrev pub invariant-loop-found : goal.invariant-loop-found
invariant-loop-found l = l.out.items ≡ l.fn.out.items
    ++ flat_map (λ m. piece l.options l.place.end l.place.name.now l.mark l.place.number l.place.offset
    l.line (span_of (found_of m)))
    (take l.found-index l.matches)
