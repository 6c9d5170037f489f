-- one text more is read
use Rattle.nfa_compiler.specs.Compiled.{IsTreeOf}
use Rattle.nfa_compiler.proofs.CompiledLemmas.{read-more}
use Rattle.nfa_compiler.proofs.reading.read_all.Goals as goal

pub loop-index-preserved : goal.loop-index-preserved
loop-index-preserved c =
    read-more (IsTreeOf c.args.syntax.now) (λ text. text.now) c.args.patterns.now c.loop-index.index _ _ _ _
    c.loop-index-test.true c.loop-index.invariant c.in_ok-read.ensures.read c.in_ok-push.ensures.items
