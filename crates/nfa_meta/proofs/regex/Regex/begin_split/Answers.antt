-- The matches of the iterator are those of the text.
use Rattle.nfa_paths.proofs.Common.{refl, subst, Search}
use Rattle.nfa_search_base.specs.Common.{MatchesGiven}
use Rattle.nfa_choice.specs.ChoiceState.{kind_in}
use Rattle.nfa_meta.specs.Matches.{finds_next}
use Rattle.nfa_meta.proofs.regex.Regex.begin_split.Goals as goal

pub returns-clause-begins : goal.returns-clause-begins
returns-clause-begins c =
    let r = c.args.self.now.choice in
    let s = c.find_iter.result in
    record {
      given = subst (λ (x : Search). MatchesGiven r.nfa (kind_in r) x finds_next s) c.new.ensures
          c.find_iter.ensures.given;
      start = refl;
      end = refl;
      going = refl;
    }
