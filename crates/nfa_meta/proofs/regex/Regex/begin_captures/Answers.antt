-- The captures are made for the groups of the NFA.
use Rattle.nfa_paths.proofs.Common.{◌∙◌, ap}
use Rattle.nfa_search_base.specs.Common.{fresh}
use Rattle.nfa_search_base.proofs.DrainedLemmas.{made-holds}
use Rattle.nfa_meta.proofs.regex.Regex.begin_captures.Goals as goal

pub returns : goal.returns
returns c =
    let made = c.new-steps.ensures in
    record {
      iter_state = made.iter_state ∙ ap fresh c.new-input.ensures;
      going = made.going;
      groups = rw (made.backend ∙ c.new.ensures)
          (made-holds c.args.self.now.choice.nfa c.in-Ok.captures c.in-Ok.ensures.made);
    }
