-- one more pattern is there
use Rattle.nfa_paths.proofs.Common.{◌+◌, ◌∙◌, ap, arith, length, map, rules, subst, sym, vec_len, length_push, node_of}
use Rattle.nfa_compiler.specs.Common.{res_of, NamesPattern, AreInRange}
use Rattle.nfa_compiler.proofs.AddLemmas.{adds-length, nodes-length}
use Rattle.nfa_compiler.proofs.CompiledLemmas.{made-more, inside-more, slots-more, fit-all, fit-more, named-at}
use Rattle.nfa_compiler.proofs.compiler.Compiler.add_patterns.Goals as goal

pub loop-index-preserved : goal.loop-index-preserved
loop-index-preserved c = record {
  count = ap length c.in_ok-push.ensures.items ∙ length_push _ _ ∙ ap (λ k. k + 1) c.loop-index.invariant.count;
  slots_are =
      omega (
        arith,
        c.in_ok-slots-2.ensures.after,
        c.loop-index.invariant.slots_are,
        slots-more c.args.patterns.now c.loop-index.index c.index-patterns-index.result c.loop-index-test.true
            c.index-patterns-index.is,
      );
  made =
      made-more _ _ c.args.patterns.now c.loop-index.starts.items _ c.loop-index.slots c.loop-index.index
      c.in_ok-add_pattern.field-0 c.index-patterns-index.result c.loop-index-test.true c.index-patterns-index.is
      c.in_ok-add_pattern.ensures.added c.loop-index.invariant.made c.loop-index.invariant.count
      c.in_ok-push.ensures.items c.loop-index.invariant.slots_are c.in_ok-add_pattern.ensures.made;
  range =
      subst (λ n. AreInRange n (c.loop-index.index + 1) (map node_of c.add_pattern.new.states.items))
      (sym c.in_ok-slots-2.ensures.after) c.in_ok-add_pattern.ensures.range;
  inside =
      inside-more (vec_len c.loop-index.states) (vec_len c.add_pattern.new.states) c.loop-index.starts.items _
      c.in_ok-add_pattern.field-0
      (omega (
        arith,
        nodes-length c.loop-index.states,
        nodes-length c.add_pattern.new.states,
        adds-length _ _ c.in_ok-add_pattern.ensures.added,
      ))
      c.loop-index.invariant.inside c.in_ok-add_pattern.ensures.inside c.in_ok-push.ensures.items;
  fit =
      fit-more c.args.self.now.config.size_limit c.args.patterns.now c.loop-index.index c.index-patterns-index.result
      c.loop-index-test.true c.index-patterns-index.is c.loop-index.invariant.fit c.in_ok-add_pattern.ensures.fits;
}

pub returns-in_err-add_pattern-clause-named : goal.returns-in_err-add_pattern-clause-named
returns-in_err-add_pattern-clause-named c =
    let h : NamesPattern c.args.self.now.config.size_limit (res_of c.args.patterns.now) c.in_err-add_pattern.field-0.0 =
    named-at c.args.self.now.config.size_limit c.args.patterns.now c.loop-index.index c.in_err-add_pattern.field-0.0
    c.loop-index-test.true
    c.loop-index.invariant.fit c.in_err-add_pattern.ensures.fails in
    search (rules, h)

pub returns-clause-fits : goal.returns-clause-fits
returns-clause-fits c =
    fit-all c.args.self.now.config.size_limit c.args.patterns.now
    (λ k below. c.loop-index.invariant.fit k (omega (arith, c.loop-index-test.false)))
