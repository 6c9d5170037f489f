-- The iterator gives the captures of its input, and keeps the engine.
use Rattle.nfa_paths.proofs.Common.{refl, search_of}
use Rattle.nfa_search_base.specs.Common.{HasGroups}
use Rattle.nfa_meta.specs.CapturesMatches.{captures_steps}
use Rattle.nfa_choice.proofs.CapturesLemmas.{captures-are-given, captures-stay-kept, captures-take-memory, captures-by-searches}
use Rattle.nfa_meta.proofs.ListWorkLemmas.{captures-work}
use Rattle.nfa_meta.proofs.RegexLemmas.{regex_keeps}
use Rattle.nfa_meta.proofs.regex.Regex.captures_iter_with.Goals as goal

pub returns-clause-given : goal.returns-clause-given
returns-clause-given c =
    let groups : HasGroups c.args.self.now.choice.nfa c.new-backend.result.captures =
    rw c.new-backend.ensures c.requires in
    captures-are-given regex_keeps captures_steps (search_of c.args.input) _ c.new.ensures refl groups

pub returns-clause-inside : goal.returns-clause-inside
returns-clause-inside c =
    let groups : HasGroups c.args.self.now.choice.nfa c.new-backend.result.captures =
    rw c.new-backend.ensures c.requires in
    let given = captures-are-given regex_keeps captures_steps (search_of c.args.input) _ c.new.ensures refl groups in
    given.inside

pub returns-clause-errors : goal.returns-clause-errors
returns-clause-errors c = captures-take-memory regex_keeps captures_steps (search_of c.args.input) _ c.new.ensures refl

pub returns-clause-work : goal.returns-clause-work
returns-clause-work c =
    let x = search_of c.args.input in
    let by = captures-by-searches regex_keeps captures_steps x _ c.new.ensures refl in
    λ xs t r u ran next. captures-work x _ _ (by.on xs t r u ran next)

pub returns-clause-keeps : goal.returns-clause-keeps
returns-clause-keeps c = captures-stay-kept regex_keeps captures_steps _
