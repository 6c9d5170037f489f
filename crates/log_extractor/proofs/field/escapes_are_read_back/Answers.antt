-- By the lemmas on escapes.
use Rattle.log_extractor.proofs.RowLemmas.{escaped-clean, unescaped-escaped}
use Rattle.log_extractor.proofs.field.escapes_are_read_back.Goals as goal

pub returns-clause-separators : goal.returns-clause-separators
returns-clause-separators c = escaped-clean

pub returns-clause-texts : goal.returns-clause-texts
returns-clause-texts c = unescaped-escaped
