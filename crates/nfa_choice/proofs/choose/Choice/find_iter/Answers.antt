-- The iterator gives the matches of its input, and keeps the choice.
use Rattle.nfa_paths.proofs.Common.{refl, search_of}
use Rattle.nfa_choice.specs.Iterations.{choice_matches}
use Rattle.nfa_choice.proofs.FindLemmas.{finds-given, finds-kept, finds-on, finds-to_end, rule_finder}
use Rattle.nfa_choice.proofs.choose.Choice.find_iter.Goals as goal

pub returns : goal.returns
returns c =
    let x = search_of c.args.input in
    record {
      same_reference = refl;
      same_choice = refl;
      given = finds-given rule_finder choice_matches x _ c.new.ensures refl;
      searches = record {
        on = finds-on rule_finder choice_matches x _ c.new.ensures refl;
        to_end = finds-to_end rule_finder choice_matches x _ c.new.ensures refl;
      };
      keeps = finds-kept rule_finder choice_matches _;
    }
