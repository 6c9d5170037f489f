-- The characters that the iterator gives are those of the text.
use Rattle.std.proofs.Common.{rules}
use Rattle.std.proofs.lemmas.Str.{chars_from_encodes}
use Rattle.grep_options.proofs.glob.chars_of.Goals as goal

pub returns : goal.returns
returns c = search (rules, chars_from_encodes)
