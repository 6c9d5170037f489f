-- The parts are in order, and escape sequences are around them.
use Rattle.nfa_grep.proofs.PaintedLemmas.{code-is, colours-left-out, parts-are}
use Rattle.nfa_grep.proofs.paint.colours_are_around.Goals as goal

pub returns-clause-parts : goal.returns-clause-parts
returns-clause-parts c = λ colours line hit text ms apart. parts-are colours line hit text ms apart

pub returns-clause-bytes : goal.returns-clause-bytes
returns-clause-bytes c = λ colours line hit text ms are apart none.
    colours-left-out colours line hit (code-is colours are) text none ms apart
