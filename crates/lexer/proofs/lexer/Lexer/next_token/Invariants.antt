-- No token starts from the first place up to this one.
use Rattle.std.proofs.Common.{◌≡◌, ◌-◌, List, length}
use Rattle.nfa_compiler.specs.Common.{Re, AreMeant, byte_syntax}
use Rattle.lexer.specs.Lexed.{stretch_end, token_there}
use Rattle.lexer.proofs.lexer.Lexer.next_token.Given as goal

abbrev pub invariant-loop-at : goal.invariant-loop-at
invariant-loop-at l = record {
  same : (res : List Re) → AreMeant byte_syntax l.fn.self res
      → stretch_end (token_there l.prefer res l.text) (length l.text - l.from) l.from
      ≡ stretch_end (token_there l.prefer res l.text) (length l.text - l.at) l.at;
  kept : l.self ≡ l.fn.self;
}
