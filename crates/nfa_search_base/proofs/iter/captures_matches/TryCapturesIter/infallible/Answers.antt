-- The items are those of the iterator that it was.
use Rattle.std.proofs.Common.{refl}
use Rattle.nfa_search_base.proofs.WithCapturesLemmas.{captures-listed}
use Rattle.nfa_search_base.proofs.MayAnswerLemmas.{sure-caught, sure-caught_disjoint}
use Rattle.nfa_search_base.proofs.iter.captures_matches.TryCapturesIter.infallible.Goals as goal

pub returns : goal.returns
returns g c = record {
  can = c.requires;
  same = refl;
  given = sure-caught g.F.FnMut c.args.self;
  disjoint = λ going. sure-caught_disjoint g.F.FnMut c.args.self going c.requires;
  list = λ h. captures-listed g.F.FnMut h _ (λ s r t st. st.0) c.args.self;
}
