-- The law, of this position.
use Rattle.std.proofs.Common.{◌∙◌, ap, sym}
use Rattle.nfa_engines.specs.Looks.{look_holds}
use Rattle.nfa_engines.specs.Look.{Look}
use Rattle.callers.proofs.compiled.assertion_holds.Goals as goal

pub returns : goal.returns
returns c = λ l same.
    c.look_matches.ensures ∙ ap (λ (look : Look). look_holds look c.args.haystack.now c.args.at) (sym same)
    ∙ c.assertions_agree.ensures l c.args.haystack.now c.args.at c.requires
