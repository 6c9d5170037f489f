-- The calls so far appended what comes for the captures so far.
use Rattle.nfa_paths.proofs.Common.{◌≡◌, All, List, Ok, length, map, Captured, whole}
use Rattle.nfa_search_base.specs.Common.{CapturesInside, HasGroups, Yields, with_cache}
use Rattle.nfa_meta.specs.CapturesSteps.{captures_call}
use Rattle.nfa_meta.specs.RegexState.{KeepsRegex}
use Rattle.nfa_meta.specs.Rewritten.{HasRewrittenSoFar}
use Rattle.nfa_meta.proofs.regex.rewrite.rewrite_first.Given as goal

abbrev pub invariant-loop : goal.invariant-loop
invariant-loop g l = record {
  caught : List Captured;
  ran : Yields captures_call (with_cache l.fn.steps l.fn.regex) (map Ok caught) (with_cache l.steps l.regex);
  so_far : HasRewrittenSoFar g.F.FnMut l.haystack caught l.fn.replacement
      (record { replacement = l.replacement; output = l.output.items }) l.from;
  groups : HasGroups l.regex.choice.nfa l.steps.backend.captures;
  keeps : KeepsRegex l.fn.regex l.regex;
  inside : All (CapturesInside (whole l.haystack)) caught;
  grouped : All (HasGroups l.fn.regex.choice.nfa) caught;
  count : length caught ≡ l.counter;
}
