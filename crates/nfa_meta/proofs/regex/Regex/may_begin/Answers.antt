-- The NFA of the choice is that of the regex.
use Rattle.nfa_paths.proofs.Common.{ap, ◌≡◌}
use Rattle.nfa_meta.specs.RegexState.{RegexState}
use Rattle.nfa_meta.proofs.regex.Regex.may_begin.Goals as goal

pub returns-clause-may : goal.returns-clause-may
returns-clause-may c = λ may.
    let is : c.self.inside.choice ≡ c.args.self.now.choice = ap (λ (s : RegexState). s.choice) c.self.view_is in
    rw (← is) (c.may_begin.ensures.may may)
