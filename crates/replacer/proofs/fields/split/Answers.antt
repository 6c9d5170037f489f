-- The matches are those of the hits, by the laws on iterations.
use Rattle.std.proofs.Common.{◌∙◌, List, ap, arith, map, subst}
use Rattle.regex_search_core.specs.Found.{found_of}
use Rattle.regex_search_core.specs.declared.search.Match.{Match}
use Rattle.regex_search_core.specs.Search.{Search}
use Rattle.nfa_engines.specs.Lists.{AreMatches}
use Rattle.nfa_compiler.proofs.CallLemmas.{bytes-of}
use Rattle.nfa_meta.specs.ChoiceState.{kind_in}
use Rattle.nfa_meta.proofs.GapLemmas.{all-of}
use Rattle.replacer.specs.Separated.{AreAround, gaps, texts}
use Rattle.replacer.proofs.MeantLemmas.{matches-are}
use Rattle.replacer.proofs.fields.split.Goals as goal

pub returns-clause-meant : goal.returns-clause-meant
returns-clause-meant c = λ pattern re hits of all.
    let text = c.args.haystack.now in
    let r = c.args.regex.now.choice in
    let items = map found_of c.in-Ok.matches.items in
    let are = subst (λ (x : Search). AreMatches r.nfa (kind_in r) x.earliest x items) c.new.ensures
    c.in-Ok.ensures.lists.all in
    c.in_ok-fields.ensures.around.fields_are
    ∙ ap (λ (ms : List Match). gaps text 0 (map found_of ms)) c.deref.ensures.value
    ∙ ap (gaps text 0) (matches-are pattern re r text (bytes-of text (λ k. omega (arith, c.type_inv.haystack k)))
    of c.iterations_find_texts.ensures.matches c.iterations_of_strs_find_texts.ensures.matches
    c.str_hits_are_find_str.ensures.all items are hits all)

pub returns-clause-fields : goal.returns-clause-fields
returns-clause-fields c =
    let items = c.in-Ok.matches.items in
    record {
      matches = map found_of items;
      are = all-of c.args.regex.now.choice c.args.haystack.now c.new.ensures items c.in-Ok.ensures.lists.all;
      around = subst (λ (ms : List Match). AreAround c.args.haystack.now (map found_of ms)
          (texts c.in_ok-fields.fields.items)) c.deref.ensures.value c.in_ok-fields.ensures.around;
    }
