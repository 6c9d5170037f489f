-- A pattern has at most as many groups as there are slots for.
use Rattle.std.proofs.Common.{◌<◌, length, arith}
use Rattle.regex_search_core.proofs.GroupLemmas.{group_len, group_room}
use Rattle.regex_search_core.proofs.group_info.GroupInfo.group_len.Goals as goal

pub returns-clause-within : goal.returns-clause-within
returns-clause-within c =
    let names = c.self.inside.names.items in
    let i = c.as_usize-index.result in
    let inside : i < length names = omega arith in
    omega (
      arith,
      group_len names i c.index.result.now inside c.index.ensures,
      group_room names i inside,
      c.self.invariant.0,
      c.self.invariant.1,
    )
