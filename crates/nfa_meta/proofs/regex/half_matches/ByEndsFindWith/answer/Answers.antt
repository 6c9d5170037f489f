-- The half match is the answer of the search.
use Rattle.nfa_paths.proofs.Common.{search_of}
use Rattle.nfa_choice.specs.ChoiceState.{kind_in}
use Rattle.nfa_choice.proofs.HalfListLemmas.{half-answered}
use Rattle.nfa_meta.proofs.regex.half_matches.ByEndsFindWith.answer.Goals as goal

pub returns : goal.returns
returns c =
    let e = c.half_of.ensures in
    let r = c.args.regex.now.choice in
    let x = search_of c.args.input.now in
    record {
      tells = half-answered r.nfa (kind_in r) x.earliest x c.half_of.result e.answer;
      work = record { runs = e.runs; holds = e.holds; keeps = e.keeps };
    }
