-- The fields before the matches so far were cut out.
use Rattle.replacer.specs.Separated.{HasCut, texts}
use Rattle.replacer.proofs.fields.fields_between.Given as goal

abbrev pub invariant-loop-found : goal.invariant-loop-found
invariant-loop-found l = HasCut l.haystack l.matches l.found-index l.from (texts l.fields.items)
