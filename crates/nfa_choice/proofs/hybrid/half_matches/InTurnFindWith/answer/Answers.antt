-- The hybrid's half match is the answer of the search.
use Rattle.nfa_paths.proofs.Common.{search_of}
use Rattle.nfa_choice.specs.HybridState.{kind_in}
use Rattle.nfa_choice.proofs.HalfListLemmas.{half-answered}
use Rattle.nfa_choice.proofs.hybrid.half_matches.InTurnFindWith.answer.Goals as goal

pub returns : goal.returns
returns c =
    let e = c.find_half.ensures in
    let x = search_of c.args.input.now in
    record {
      tells = half-answered c.args.hybrid.now.nfa (kind_in c.args.hybrid.now) x.earliest x c.find_half.result e.answer;
      work = record { runs = e.runs; keeps = e.keeps };
    }
