-- What the levels admit is where one of their texts is.
use Rattle.nfa_paths.proofs.Common.{◌+◌, MatchOption, length, subst, sym}
use Rattle.regex_literal.specs.Find.{NoneBefore, Nowhere}
use Rattle.nfa_facts.specs.Levels.{AdmitsAt}
use Rattle.nfa_facts.proofs.literal.levels.Levels.find.Goals as goal

pub returns-in-Texts : goal.returns-in-Texts
returns-in-Texts c =
    let text = c.args.text.now in
    subst
    (λ l. MatchOption c.next_needle.result (Nowhere (AdmitsAt l text) c.args.from (length text + 1))
    (NoneBefore (AdmitsAt l text) c.args.from (length text + 1)))
    (sym c.in-Texts.is) c.next_needle.ensures
