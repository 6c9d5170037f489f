-- By the lemmas on rows.
use Rattle.log_extractor.proofs.RowLemmas.{one-line, read-back}
use Rattle.log_extractor.proofs.row.rows_are_read_back.Goals as goal

pub returns-clause-lines : goal.returns-clause-lines
returns-clause-lines c = one-line

pub returns-clause-texts : goal.returns-clause-texts
returns-clause-texts c = read-back
