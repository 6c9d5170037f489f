-- The slots that are written are those of the captures.
use Rattle.nfa_paths.proofs.Common.{rules, ◌≡◌, length, arith, common_steps, option_map, number_of, search_of}
use Rattle.nfa_meta.proofs.GroupLemmas.{captures-fill}
use Rattle.nfa_meta.proofs.regex.Regex.fill_groups.Goals as goal

pub returns-clause-fills : goal.returns-clause-fills
returns-clause-fills c =
    let x = search_of c.args.input.now in
    let r = c.args.self.now.choice in
    let old = c.args.captures.now in
    let new = c.set_pattern.new.self in
    let is : new.slots ≡ c.search_groups-pattern.new.slots = first_of (search rules, grind (arith, common_steps)) in
    let groups : new.groups ≡ old.groups = first_of (search rules, grind (arith, common_steps)) in
    let count : length new.slots ≡ length old.slots = first_of (search rules, grind (arith, common_steps)) in
    let pattern : new.pattern ≡ option_map number_of c.search_groups-pattern.result =
    first_of (search rules, grind (arith, common_steps)) in
    captures-fill r.nfa x c.search_groups-pattern.result old new groups count pattern
    (rw is (rw c.slots_mut.ensures.value at c.search_groups-pattern.ensures.writes))
