-- The iterator gives the matches of its input, and keeps the engine.
use Rattle.nfa_paths.proofs.Common.{refl, search_of}
use Rattle.nfa_choice.proofs.FindLemmas.{finds-given, finds-kept, finds-on, finds-to_end}
use Rattle.nfa_meta.specs.Matches.{finds_steps}
use Rattle.nfa_meta.proofs.ListWorkLemmas.{finds-work, matches-work}
use Rattle.nfa_meta.proofs.MatchesLemmas.{regex_finder}
use Rattle.nfa_meta.proofs.regex.Regex.find_iter.Goals as goal

pub returns : goal.returns
returns c =
    let x = search_of c.args.input in
    record {
      same_reference = refl;
      same_regex = refl;
      given = finds-given regex_finder finds_steps x _ c.new.ensures refl;
      work = record {
        on = λ xs t r u ran next. finds-work x _ _
            (finds-on regex_finder finds_steps x _ c.new.ensures refl xs t r u ran next);
        to_end = λ xs t u ran next. matches-work x xs _ _
            (finds-to_end regex_finder finds_steps x _ c.new.ensures refl xs t u ran next);
      };
      keeps = finds-kept regex_finder finds_steps _;
    }
