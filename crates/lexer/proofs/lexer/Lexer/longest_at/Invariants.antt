-- It is the longest token of the rules before this one.
use Rattle.std.proofs.Common.{◌≡◌, ◌<◌, IfSome, List, option_map}
use Rattle.nfa_compiler.specs.Common.{Re, AreMeant, byte_syntax}
use Rattle.lexer.specs.Lexed.{LiesInText, longest_of, own_token, token_found}
use Rattle.lexer.proofs.lexer.Lexer.longest_at.Given as goal

abbrev pub invariant-loop-number : goal.invariant-loop-number
invariant-loop-number l = record {
  best : (res : List Re) → AreMeant byte_syntax l.fn.self res
      → option_map token_found l.best ≡ longest_of (own_token res l.text l.at) l.number;
  after : IfSome l.best (λ token. l.at < token.span.end);
  inside : IfSome l.best (λ token. LiesInText l.text token.span);
  kept : l.self ≡ l.fn.self;
}
