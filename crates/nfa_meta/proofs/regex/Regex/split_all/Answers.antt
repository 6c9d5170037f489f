-- The spans are those around all matches of the text.
use Rattle.nfa_paths.proofs.Common.{◌∙◌, List, ap, length, map, found_of, Match}
use Rattle.nfa_meta.specs.Gaps.{gap_spans}
use Rattle.nfa_meta.proofs.GapLemmas.{all-of}
use Rattle.nfa_meta.proofs.regex.Regex.split_all.Goals as goal

pub returns-clause-spans : goal.returns-clause-spans
returns-clause-spans c = record {
  matches = map found_of c.in-Ok.matches.items;
  all = all-of c.args.self.now.choice c.args.haystack.now c.new.ensures c.in-Ok.matches.items c.in-Ok.ensures.lists.all;
  spans_are = c.in_ok-spans.ensures.spans
      ∙ ap (λ (ms : List Match). gap_spans 0 (length c.args.haystack.now) (map found_of ms)) c.deref.ensures.value;
}
