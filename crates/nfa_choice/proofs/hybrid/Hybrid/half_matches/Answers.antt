-- The iterator gives the half matches of its input, and keeps the hybrid.
use Rattle.nfa_paths.proofs.Common.{refl, search_of}
use Rattle.nfa_choice.specs.Halves.{half_steps}
use Rattle.nfa_choice.proofs.HalvesLemmas.{halves-kept, halves-of, halves-searches, hybrid_engine}
use Rattle.nfa_choice.proofs.hybrid.Hybrid.half_matches.Goals as goal

pub returns : goal.returns
returns c =
    let x = search_of c.args.input in
    record {
      same_reference = refl;
      same_hybrid = refl;
      given = halves-of hybrid_engine half_steps x _ c.new.ensures refl;
      searches = halves-searches hybrid_engine half_steps x _ c.new.ensures refl;
      keeps = halves-kept hybrid_engine half_steps _;
    }
