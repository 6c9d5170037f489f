-- The choice's match is the answer of the search.
use Rattle.nfa_paths.proofs.Common.{search_of}
use Rattle.nfa_choice.specs.ChoiceState.{kind_in}
use Rattle.nfa_search_base.proofs.EngineLemmas.{find-answered}
use Rattle.nfa_choice.proofs.choose.find_iter.ByRuleFindWith.answer.Goals as goal

pub returns : goal.returns
returns c =
    let e = c.find.ensures in
    let x = search_of c.args.input.now in
    record {
      tells = find-answered c.args.choice.now.nfa (kind_in c.args.choice.now) x.earliest x c.find.result e.answer;
      work = record { runs = e.runs; holds = e.holds; keeps = e.keeps };
    }
