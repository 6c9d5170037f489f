-- A byte like another one is read alike.
use Rattle.std.proofs.Common.{◌≢◌, ◌<◌, ◌∙◌, ℕ, sym, subst, Some, arith, length, below_more, get_or-set_same, get_or-set_other}
use Rattle.std.proofs.lemmas.List.{length-set}
use Rattle.nfa_lazy_dfa.specs.Assertions.{SameLooks, sees}
use Rattle.nfa_lazy_dfa.proofs.AssertionLemmas.{same-like}
use Rattle.nfa_lazy_dfa.proofs.terminators.likes_of.Goals as goal

pub loop-byte-preserved : goal.loop-byte-preserved
loop-byte-preserved c =
    let likes = c.loop-byte.likes in
    let byte = c.loop-byte.byte in
    let inside : byte < length likes = omega (arith, c.loop-byte.invariant.size, c.loop-byte-test.true) in
    record {
      size = length-set likes byte c.like.result ∙ c.loop-byte.invariant.size;
      alike =
          below_more _ _
          (λ k h.
          let ne : k ≢ byte = omega arith in
          get_or-set_other likes byte k c.like.result 0 ne ∙ c.loop-byte.invariant.alike k h)
          (get_or-set_same likes byte c.like.result 0 inside ∙ c.like.ensures);
    }

pub returns : goal.returns
returns c = record {
  same = λ byte after below read after_read.
      subst (λ (b : ℕ). SameLooks c.args.nfa.now (sees (Some b) after) (sees (Some byte) after))
      (sym (c.loop-byte.invariant.alike byte (omega arith)))
      (same-like c.args.nfa.now c.terminators_of-terminators.result c.terminators_of-terminators.ensures byte after
      read after_read);
}
