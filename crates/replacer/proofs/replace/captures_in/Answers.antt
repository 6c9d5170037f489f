-- The captures are those of the first hits, by the laws on iterations.
use Rattle.std.proofs.Common.{◌∙◌, List, ap, arith}
use Rattle.regex_search_core.specs.Search.{search_of, whole}
use Rattle.regex_search_core.specs.Slots.{Captured}
use Rattle.nfa_engines.specs.Runs.{CapturesInside}
use Rattle.nfa_compiler.proofs.CallLemmas.{bytes-of}
use Rattle.nfa_meta.proofs.CaughtLemmas.{all-caught}
use Rattle.replacer.specs.Hits.{captured_by}
use Rattle.replacer.specs.Printed.{limited}
use Rattle.replacer.proofs.PrintedLemmas.{limited-all, limited-disjoint, limited-map}
use Rattle.replacer.proofs.MeantLemmas.{caught-are}
use Rattle.replacer.proofs.replace.captures_in.Goals as goal

pub returns-clause-meant : goal.returns-clause-meant
returns-clause-meant c = λ pattern re hits of all.
    let r = c.args.regex.now.choice in
    let text = c.args.haystack.now in
    let cs = c.in-Ok.caught.items in
    let caught = all-caught r text (search_of c.new.result) c.new.ensures cs c.in-Ok.ensures.lists.rows
    c.in-Ok.ensures.lists.groups in
    c.first_of.ensures
    ∙ ap (λ (l : List Captured). limited c.args.limit l)
    (caught-are pattern re r text (bytes-of text (λ k. omega (arith, c.type_inv.haystack k))) of
    c.iterations_find_texts.ensures.captures c.iterations_of_strs_find_texts.ensures.captures
    c.str_hits_are_find_str.ensures.all cs caught.rows caught.groups hits all)
    ∙ limited-map (captured_by r.nfa.groups) c.args.limit hits

pub returns-clause-first : goal.returns-clause-first
returns-clause-first c = record {
  all = c.in-Ok.caught.items;
  are = all-caught c.args.regex.now.choice c.args.haystack.now (search_of c.new.result) c.new.ensures
      c.in-Ok.caught.items c.in-Ok.ensures.lists.rows c.in-Ok.ensures.lists.groups;
  first = c.first_of.ensures;
}

pub returns-clause-inside : goal.returns-clause-inside
returns-clause-inside c =
    let P = CapturesInside (whole c.args.haystack.now) in
    rw c.first_of.ensures (limited-all P c.args.limit c.in-Ok.caught.items (rw c.new.ensures at c.in-Ok.ensures.inside))

pub returns-clause-apart : goal.returns-clause-apart
returns-clause-apart c =
    rw c.first_of.ensures (limited-disjoint (whole c.args.haystack.now) c.args.limit c.in-Ok.caught.items
    (rw c.new.ensures at c.in-Ok.ensures.lists.disjoint))
