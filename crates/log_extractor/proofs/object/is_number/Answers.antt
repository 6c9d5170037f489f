-- The number is the whole text.
use Rattle.json.specs.Word.{after_number}
use Rattle.log_extractor.proofs.RowLemmas.{whole-is}
use Rattle.log_extractor.proofs.object.is_number.Goals as goal

pub returns : goal.returns
returns c = whole-is (after_number c.args.text.now) c.is_number.result c.is_number.ensures
