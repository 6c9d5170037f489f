-- The items are those of the iterator that it was.
use Rattle.nfa_paths.proofs.Common.{refl}
use Rattle.nfa_search_base.specs.Common.{IsCallableOn, Finds}
use Rattle.nfa_search_base.proofs.StoredLemmas.{sure-yields}
use Rattle.nfa_search_base.proofs.MayAnswerLemmas.{sure, sure-disjoint}
use Rattle.nfa_search_base.proofs.iter.found_iter.TryFoundIter.infallible.Goals as goal

pub returns : goal.returns
returns g c =
    let m = g.M.Spanned in
    record {
      can = c.requires;
      same = refl;
      given = sure m.value m.span g.F.FnMut c.args.self;
      disjoint = λ going. sure-disjoint m.value m.span g.F.FnMut g.met.M.Spanned.ordered c.args.self going c.requires;
      list = λ h. sure-yields (IsCallableOn g.F.FnMut) (Finds m.value g.F.FnMut) m.span m.value h c.args.self;
    }
