-- What is true of the compiler's NFA is true of what is made of it.
use Rattle.std.proofs.Common.{List, map, ℕ, Bor}
use Rattle.std.proofs.lemmas.Result.{IfOk-weaker}
use Rattle.nfa_meta.specs.Built.{HasLines, IsCompiledBy}
use Rattle.nfa_meta.proofs.BuiltLemmas.{captures-of, lines-of}
use Rattle.nfa_meta.proofs.builder.Builder.compile.Goals as goal

pub returns-clause-built : goal.returns-clause-built
returns-clause-built c =
    let b = c.args.self.now in
    let texts : List (List ℕ) = map (λ (text : Bor (List ℕ)). text.now) c.args.patterns.now in
    let is : IsCompiledBy b texts c.in_ok-nfa.nfa = record {
      compiled = rw c.compiler.ensures at c.in_ok-nfa.ensures.compiled;
      valid = c.in_ok-nfa.ensures.valid;
      utf8 = rw c.compiler.ensures at c.in_ok-nfa.ensures.utf8;
      anchored = rw c.compiler.ensures at c.in_ok-nfa.ensures.anchored;
      bound = rw c.compiler.ensures at c.in_ok-nfa.ensures.bound;
      free = rw c.compiler.ensures at c.in_ok-nfa.ensures.free;
      anywhere = rw c.compiler.ensures at c.in_ok-nfa.ensures.anywhere;
      fits = rw c.compiler.ensures at c.in_ok-nfa.ensures.fits;
    } in
    let ended = lines-of b.config.line_terminator (IsCompiledBy b texts) c.in_ok-nfa.nfa c.end_lines-nfa.result is
    c.end_lines-nfa.ensures in
    IfOk-weaker c.keep_captures.result _ _
    (λ nfa. captures-of b.config.which_captures (HasLines b.config.line_terminator (IsCompiledBy b texts))
    c.end_lines-nfa.result nfa ended)
    c.keep_captures.ensures.kept
