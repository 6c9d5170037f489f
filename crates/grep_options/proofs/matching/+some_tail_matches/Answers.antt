-- Nothing after a slash in a text that is too short for the parts is matched.
use Rattle.std.proofs.Common.{map, refl}
use Rattle.grep_options.specs.Globs.{part_of, parts_match}
use Rattle.grep_options.proofs.OutcomeLemmas.{none_in_slice}
use Rattle.grep_options.proofs.matching.+some_tail_matches.Goals as goal

pub returns-in-Short : goal.returns-in-Short
returns-in-Short t c =
    none_in_slice (parts_match (map part_of c.args.tokens.now)) c.args.text.now c.in-len1-up.len_at_least
    (c.in-Short.ensures.short refl)
