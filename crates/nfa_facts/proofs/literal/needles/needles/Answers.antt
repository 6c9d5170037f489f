-- The search is for the texts, one of which is where the levels fit.
use Rattle.nfa_paths.proofs.Common.{subst, sym}
use Rattle.regex_literal.specs.Find.{AnyOccursAt}
use Rattle.nfa_facts.proofs.NeedleLemmas.{ok-some-then}
use Rattle.nfa_facts.proofs.literal.needles.needles.Goals as goal

pub returns : goal.returns
returns c =
    ok-some-then c.new.result
    (λ needles same. λ hay k fits. subst (λ ts. AnyOccursAt hay ts k) (sym same) (c.in_ok-texts.ensures hay k fits))
    c.new.ensures.needles
