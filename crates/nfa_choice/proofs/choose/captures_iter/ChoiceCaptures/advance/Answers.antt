-- A step may be made, and leaves what the iterator keeps. It is a call that gives the captures which it holds.
use Rattle.nfa_paths.proofs.Common.{refl}
use Rattle.nfa_search_base.specs.Common.{steps_with_state, with_cache}
use Rattle.nfa_choice.specs.Iterations.{choice_captures}
use Rattle.nfa_choice.proofs.CapturesLemmas.{captures-lent, step-goes, steps-serve}
use Rattle.nfa_choice.proofs.FindLemmas.{rule_keeps}
use Rattle.nfa_choice.proofs.choose.captures_iter.ChoiceCaptures.advance.Goals as goal

pub advance_with-requires : goal.advance_with-requires
advance_with-requires c =
    let s = c.args.self.now in steps-serve rule_keeps (steps_with_state (choice_captures s)) s.holds

pub invariant_of-self : goal.invariant_of-self
invariant_of-self c =
    let s = c.args.self.now in
    let from = steps_with_state (choice_captures s) in
    let to = with_cache c.advance_with.new.self c.advance_with.new.cache in
    record {
      holds = step-goes rule_keeps from _ to
          (captures-lent rule_keeps from to c.advance_with.result c.advance_with.ensures) s.holds;
    }

pub returns : goal.returns
returns c =
    let from = steps_with_state (choice_captures c.args.self.now) in
    let to = with_cache c.advance_with.new.self c.advance_with.new.cache in
    record {
      takes = record {
        step = captures-lent rule_keeps from to c.advance_with.result c.advance_with.ensures;
        cache = refl;
      };
    }
