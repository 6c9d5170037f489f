-- The parts match nothing that is left of a text which is too short for those after the first one.
use Rattle.std.proofs.Common.{◌-◌, drop, get_or, length, map, sym, take}
use Rattle.grep_options.specs.declared.glob.Token.TheVariants as token
use Rattle.grep_options.specs.Globs.{part_of, parts_match, takes}
use Rattle.grep_options.proofs.OutcomeLemmas.{parts_with_first, parts_with_star, short_after_first, short_after_star, short_is_none, whole_is_rest}
use Rattle.grep_options.proofs.matching.+parts.Goals as goal

pub outcome_of-returns-then-is_star-clause-short : goal.outcome_of-returns-then-is_star-clause-short
outcome_of-returns-then-is_star-clause-short t c short =
    short_after_star (parts_match (map part_of c.args.tokens.now))
    (parts_match (map part_of (take (length c.args.tokens.now - 1) (drop 1 c.args.tokens.now))))
    (parts_with_star c.args.tokens.now (token.Is 0) c.in-len1-up.len_at_least (sym c.if-is_star.ensures))
    c.args.text.now (short_is_none _ _ c.outcome_of_rests.ensures short)

pub outcome_of-returns-then-takes-clause-short : goal.outcome_of-returns-then-takes-clause-short
outcome_of-returns-then-takes-clause-short t c short =
    short_after_first (parts_match (map part_of c.args.tokens.now))
    (parts_match (map part_of (take (length c.args.tokens.now - 1) (drop 1 c.args.tokens.now))))
    (takes (part_of (get_or c.args.tokens.now 0 (token.Is 0))))
    (parts_with_first c.args.tokens.now (token.Is 0) c.in-len1-up.len_at_least (sym c.if-is_star.ensures))
    c.args.text.now c.in-len1-up-text.len_at_least (c.outcome_of.ensures.short short)

pub outcome_of_rests-returns-in-Match : goal.outcome_of_rests-returns-in-Match
outcome_of_rests-returns-in-Match t c =
    sym (whole_is_rest (parts_match (map part_of c.args.tokens.now)) c.args.text.now (sym c.in-Match.ensures.matched))
