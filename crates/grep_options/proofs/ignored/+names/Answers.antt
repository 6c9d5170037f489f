-- The names, or what is left of them, are too few for the parts after the first one.
use Rattle.std.proofs.Common.{◌≡◌, ◌∙◌, ◌-◌, Bor, List, [], ap, drop, false, get_or, length, sym, take}
use Rattle.grep_options.specs.Globs.{Letter, is_match, takes_first}
use Rattle.grep_options.specs.Ignored.{is_deep, name_fits, path_fits}
use Rattle.grep_options.proofs.OutcomeLemmas.{same_rest, short_after_star, whole_is_rest}
use Rattle.grep_options.proofs.PathLemmas.{few_after_first, if_match, if_short, if_too_short, parts_with_deep, parts_with_plain, some_is_more, values}
use Rattle.grep_options.proofs.ignored.+names.Goals as goal

pub outcome_of_later_names-returns-in-Match : goal.outcome_of_later_names-returns-in-Match
outcome_of_later_names-returns-in-Match t c =
    sym (whole_is_rest (path_fits (values c.args.parts.now)) (values c.args.names.now)
    (sym c.in_ok-outcome_of_names.ensures.matched ∙ ap is_match c.in-Match.is))

pub outcome_of_name-returns-then-branch-clause-short : goal.outcome_of_name-returns-then-branch-clause-short
outcome_of_name-returns-then-branch-clause-short t c =
    if_short _ _ _
    (few_after_first (name_fits c.args.first.now) (path_fits (values c.args.others.now)) c.args.names.now
    c.in-len1-up.len_at_least)
    c.outcome_of_names.ensures.short

pub outcome_of_names-returns-then-not-is_deep-clause-short : goal.outcome_of_names-returns-then-not-is_deep-clause-short
outcome_of_names-returns-then-not-is_deep-clause-short t c =
    let parts = c.args.parts.now in
    let x : Bor (List Letter) = record { ref_ptr = (0, 0); now = [] } in
    let plain : is_deep (get_or parts 0 x).now ≡ false = sym c.is_deep.ensures ∙ c.if-not-is_deep.true in
    if_short _ _ _
    (λ none. same_rest (path_fits (values parts))
    (takes_first (name_fits (get_or parts 0 x).now) (path_fits (values (take (length parts - 1) (drop 1 parts)))))
    (parts_with_plain parts x c.in-len1-up.len_at_least plain) (values c.args.names.now) ∙ none)
    c.outcome_of_name.ensures.short

pub outcome_of_names-returns-else-is_empty-clause-matched : goal.outcome_of_names-returns-else-is_empty-clause-matched
outcome_of_names-returns-else-is_empty-clause-matched t c =
    let parts = c.args.parts.now in
    let more = some_is_more (take (length parts - 1) (drop 1 parts)) (sym c.is_empty.ensures ∙ c.if-is_empty.false) in
    if_match is_match _ _ _
    (sym (parts_with_deep parts (record { ref_ptr = (0, 0); now = [] }) c.in-len1-up.len_at_least
    (sym c.is_deep.ensures ∙ c.if-not-is_deep.false) more (values c.args.names.now)))
    c.outcome_of_later_names.ensures

pub outcome_of_names-returns-else-is_empty-clause-short : goal.outcome_of_names-returns-else-is_empty-clause-short
outcome_of_names-returns-else-is_empty-clause-short t c =
    let parts = c.args.parts.now in
    let more = some_is_more (take (length parts - 1) (drop 1 parts)) (sym c.is_empty.ensures ∙ c.if-is_empty.false) in
    if_too_short _ _ _
    (short_after_star (path_fits (values parts)) (path_fits (values (take (length parts - 1) (drop 1 parts))))
    (parts_with_deep parts (record { ref_ptr = (0, 0); now = [] }) c.in-len1-up.len_at_least
    (sym c.is_deep.ensures ∙ c.if-not-is_deep.false) more) (values c.args.names.now))
    c.outcome_of_later_names.ensures
