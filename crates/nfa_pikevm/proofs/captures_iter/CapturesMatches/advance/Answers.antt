-- A step may be made, and leaves what the iterator keeps. It is a call that gives the captures which it holds.
use Rattle.nfa_paths.proofs.Common.{refl}
use Rattle.nfa_search_base.specs.Common.{with_cache, steps_with_state}
use Rattle.nfa_search_base.proofs.DrainedLemmas.{fills-go, fills-serve}
use Rattle.nfa_pikevm.specs.Iterators.{pike_captures}
use Rattle.nfa_pikevm.proofs.CapturesLemmas.{captures-lent, pike_filler}
use Rattle.nfa_pikevm.proofs.captures_iter.CapturesMatches.advance.Goals as goal

pub advance_with-requires : goal.advance_with-requires
advance_with-requires c = fills-serve pike_filler (steps_with_state (pike_captures c.args.self.now))
    (record { fits = c.args.self.now.fits; holds = c.args.self.now.holds })

pub invariant_of-self : goal.invariant_of-self
invariant_of-self c =
    let from = steps_with_state (pike_captures c.args.self.now) in
    let to = with_cache c.advance_with.new.self c.advance_with.new.cache in
    let k = fills-go pike_filler from _ to (captures-lent from to c.advance_with.result c.advance_with.ensures)
    (record { fits = c.args.self.now.fits; holds = c.args.self.now.holds }) in
    record { fits = k.fits; holds = k.holds }

pub returns : goal.returns
returns c =
    let from = steps_with_state (pike_captures c.args.self.now) in
    let to = with_cache c.advance_with.new.self c.advance_with.new.cache in
    record {
      takes = record {
        step = captures-lent from to c.advance_with.result c.advance_with.ensures;
        cache = refl;
      };
    }
