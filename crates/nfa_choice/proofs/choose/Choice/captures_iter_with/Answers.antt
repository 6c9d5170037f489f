-- The iterator gives the captures of its input, and keeps the choice.
use Rattle.nfa_paths.proofs.Common.{refl, search_of}
use Rattle.nfa_choice.specs.Iterations.{choice_captures}
use Rattle.nfa_choice.proofs.CapturesLemmas.{captures-are-given, captures-stay-kept, captures-take-memory, captures-by-searches}
use Rattle.nfa_choice.proofs.FindLemmas.{rule_keeps}
use Rattle.nfa_choice.proofs.choose.Choice.captures_iter_with.Goals as goal

pub returns : goal.returns
returns c =
    let x = search_of c.args.input in
    let given = captures-are-given rule_keeps choice_captures x _ c.new.ensures refl c.requires in
    record {
      same_reference = refl;
      same_choice = refl;
      given = given;
      inside = given.inside;
      errors = captures-take-memory rule_keeps choice_captures x _ c.new.ensures refl;
      searches = captures-by-searches rule_keeps choice_captures x _ c.new.ensures refl;
      keeps = captures-stay-kept rule_keeps choice_captures _;
    }
