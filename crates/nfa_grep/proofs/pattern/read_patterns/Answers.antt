-- One text more is read.
use Rattle.nfa_compiler.proofs.CompiledLemmas.{read-more}
use Rattle.nfa_grep.specs.Meant.{IsReadFrom}
use Rattle.nfa_grep.proofs.pattern.read_patterns.Goals as goal

pub loop-text-preserved : goal.loop-text-preserved
loop-text-preserved c =
    read-more (IsReadFrom c.args.options) (λ text. text.now) c.args.texts.now c.loop-text.text-index _ _ _ _
    c.loop-text-test.true c.loop-text.invariant c.in-Some.ensures c.in_ok-push.ensures.items
