-- The place is that of the first group of the name.
use Rattle.std.proofs.Common.{option_map, string_bytes, rules, tests, ◌∙◌, sym}
use Rattle.std.proofs.lemmas.Iterator.{YieldsList-from_slice}
use Rattle.std.proofs.lemmas.Iterator.Search.{position_from_yields_List}
use Rattle.regex_search_core.specs.Groups.{is_named}
use Rattle.regex_search_core.proofs.GroupLemmas.{position-map}
use Rattle.regex_search_core.proofs.group_info.place_named.Goals as goal

pub returns : goal.returns
returns c =
    position_from_yields_List (λ group. is_named c.args.name.now (option_map string_bytes group)) _ _ _
    c.position.ensures.ran
    (YieldsList-from_slice c.args.groups.now cc) (λ x b q k. search (rules, tests))
    ∙ sym (position-map (is_named c.args.name.now) (option_map string_bytes) c.args.groups.now)
