-- The items are the list of the finder, up to a refusal.
use Rattle.std.proofs.Common.{refl}
use Rattle.nfa_search_base.specs.Stored.{steps_from}
use Rattle.nfa_search_base.proofs.WithCapturesLemmas.{captures-listed}
use Rattle.nfa_search_base.proofs.MayAnswerLemmas.{caught, caught-disjoint}
use Rattle.nfa_search_base.proofs.iter.searcher.Searcher.into_captures_iter.Goals as goal

pub returns : goal.returns
returns g c =
    let s = steps_from c.args.self (record { finder = c.args.finder; captures = c.args.captures }) in
    rw c.new.ensures (record {
      can = c.requires;
      iter_state = refl;
      finder = refl;
      going = refl;
      given = caught g.F.FnMut s refl;
      disjoint = caught-disjoint g.F.FnMut s refl c.requires;
      list = λ h. captures-listed g.F.FnMut h _ (λ s r t st. st) s;
    })
