-- The table of sure steps is of the NFA of the choice, and the cache has no rows.
use Rattle.nfa_paths.proofs.Common.{arith, rules, common_steps}
use Rattle.nfa_meta.proofs.regex.Regex.from_parts.Goals as goal

pub invariant_of-result : goal.invariant_of-result
invariant_of-result c =
    let made = c.in_ok-choice.ensures.made in
    let records = c.in-Ok-records_match_spans.ensures.records in (
      search rules,
      search rules,
      search rules,
      search rules,
      first_of (search rules, grind (arith, common_steps)),
      search rules,
      search rules,
      search rules,
      search rules,
      rw made records.0,
      search rules,
      rw made c.in-Ok-new-2.ensures.own,
      search rules,
    )
