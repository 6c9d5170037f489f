-- Why the compiler refused the trees.
use Rattle.std.proofs.Common.{length, rules}
use Rattle.nfa_compiler.specs.Compiled.{res_of}
use Rattle.nfa_grep.specs.Meant.{IsOfTrees}
use Rattle.nfa_grep.proofs.PatternLemmas.{refusal}
use Rattle.nfa_grep.proofs.joined.separate.Goals as goal

pub returns-in-Err-clause-refused : goal.returns-in-Err-clause-refused
returns-in-Err-clause-refused c =
    refusal (IsOfTrees (res_of c.args.trees.now)) (length c.args.trees.now) c.in-Err.error c.described.result
    c.described.ensures (search rules, search rules)
