-- The first captures are a part of all.
use Rattle.nfa_paths.proofs.Common.{List, All, map, subst, sym, None, All-take, search_of, Captured}
use Rattle.nfa_search_base.specs.Common.{CapturesInside, match_in, AreDisjoint}
use Rattle.nfa_meta.proofs.CaughtLemmas.{first-apart}
use Rattle.nfa_meta.proofs.regex.Regex.first_captures.Goals as goal

pub returns-clause-first : goal.returns-clause-first
returns-clause-first c = record {
  all = c.in-Ok.caught.items;
  rows = c.in-Ok.ensures.lists.rows;
  groups = c.in-Ok.ensures.lists.groups;
  first = c.first_of.ensures;
}

pub returns-clause-inside : goal.returns-clause-inside
returns-clause-inside c =
    let P = CapturesInside (search_of c.args.input) in
    subst (λ (cs : List Captured). All P cs) (sym c.first_of.ensures)
    (All-take P c.args.count c.in-Ok.caught.items c.in-Ok.ensures.inside)

pub returns-clause-apart : goal.returns-clause-apart
returns-clause-apart c =
    let x = search_of c.args.input in
    subst (λ (cs : List Captured). AreDisjoint x None (map match_in cs)) (sym c.first_of.ensures)
    (first-apart x c.args.count c.in-Ok.caught.items c.in-Ok.ensures.lists.disjoint)
