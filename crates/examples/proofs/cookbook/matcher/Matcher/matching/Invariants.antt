-- The lines so far in which the pattern matches.
use Rattle.std.proofs.Common.{◌≡◌, take}
use Rattle.std.specs.List.{filter}
use Rattle.nfa_compiler.specs.WrittenPatterns.{has_match}
use Rattle.examples.proofs.cookbook.matcher.Matcher.matching.Given as goal

abbrev pub invariant-loop-line : goal.invariant-loop-line
invariant-loop-line l = record {
  picked : l.picked.items ≡ filter (λ line. has_match l.fn.self line.now) (take l.line-index l.lines);
  keeps : l.self ≡ l.fn.self;
}
