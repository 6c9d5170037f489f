-- The iterator gives the half matches of its input, and keeps the engine.
use Rattle.nfa_paths.proofs.Common.{refl, search_of}
use Rattle.nfa_choice.proofs.HalvesLemmas.{halves-kept, halves-of, halves-searches}
use Rattle.nfa_meta.specs.Halves.{half_steps}
use Rattle.nfa_meta.proofs.HalvesLemmas.{regex_engine}
use Rattle.nfa_meta.proofs.ListWorkLemmas.{all_halves-work, halves-rest, halves-work}
use Rattle.nfa_meta.proofs.regex.Regex.half_matches.Goals as goal

pub returns : goal.returns
returns c =
    let x = search_of c.args.input in
    let by = halves-searches regex_engine half_steps x _ c.new.ensures refl in
    record {
      same_reference = refl;
      same_regex = refl;
      given = halves-of regex_engine half_steps x _ c.new.ensures refl;
      work = record {
        on = λ xs t r u ran next. halves-work x _ _ (by.on xs t r u ran next);
        to_end = λ xs t u ran next. all_halves-work x xs _ _ (by.to_end xs t u ran next);
        rests = λ xs t r u ran next. halves-rest x _ _ (by.on xs t r u ran next);
      };
      keeps = halves-kept regex_engine half_steps _;
    }
