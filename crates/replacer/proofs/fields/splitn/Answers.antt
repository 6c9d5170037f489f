-- The matches are the first of those of the hits, by the laws on iterations.
use Rattle.std.proofs.Common.{◌≡◌, ◌∙◌, ◌<◌, ◌-◌, List, ap, arith, length, map, subst}
use Rattle.std.proofs.lemmas.List.{length-map}
use Rattle.regex_search_core.specs.Found.{found_of}
use Rattle.regex_search_core.specs.declared.search.Match.{Match}
use Rattle.nfa_compiler.proofs.CallLemmas.{bytes-of}
use Rattle.nfa_meta.proofs.GapLemmas.{as-many, first-fewer, first-of}
use Rattle.replacer.specs.Separated.{AreAround, gaps, texts}
use Rattle.replacer.proofs.MeantLemmas.{first-are}
use Rattle.replacer.proofs.PrintedLemmas.{first-by}
use Rattle.replacer.proofs.fields.splitn.Goals as goal

pub returns-clause-meant : goal.returns-clause-meant
returns-clause-meant c = λ pattern re hits of all.
    let r = c.args.regex.now.choice in
    let text = c.args.haystack.now in
    let some : 0 < c.args.limit = omega arith in
    let items = c.in_ok-matches.matches.items in
    let found = c.in_ok-matches.ensures in
    let same : length (map found_of items) ≡ length items = length-map items found_of in
    c.in_ok-fields.ensures.around.fields_are
    ∙ ap (λ (ms : List Match). gaps text 0 (map found_of ms)) c.deref.ensures.value
    ∙ ap (gaps text 0) (first-are pattern re r text (bytes-of text (λ k. omega (arith, c.type_inv.haystack k))) of
    c.iterations_find_texts.ensures.matches c.iterations_of_strs_find_texts.ensures.matches
    c.str_hits_are_find_str.ensures.all (map found_of items) (c.args.limit - 1)
    (first-of r text c.new-2.ensures items found.first)
    (as-many r text c.new-2.ensures items (c.args.limit - 1) found.as_many) (omega (arith, same, found.few)) hits all)
    ∙ first-by c.args.limit text hits some

pub returns-clause-fields : goal.returns-clause-fields
returns-clause-fields c = λ some.
    let items = c.in_ok-matches.matches.items in
    let found = c.in_ok-matches.ensures in
    let r = c.args.regex.now.choice in
    let firsts = first-fewer r c.args.haystack.now c.new-2.ensures items c.args.limit some found.first found.as_many in
    record {
      matches = map found_of items;
      first = firsts.0;
      as_many = firsts.1;
      around = subst (λ (ms : List Match). AreAround c.args.haystack.now (map found_of ms)
          (texts c.in_ok-fields.fields.items)) c.deref.ensures.value c.in_ok-fields.ensures.around;
    }
