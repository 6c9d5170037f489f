-- The spans are those around the first matches of the text.
use Rattle.nfa_paths.proofs.Common.{◌∙◌, List, ap, length, map, found_of, Match}
use Rattle.nfa_meta.specs.Gaps.{gap_spans}
use Rattle.nfa_meta.proofs.GapLemmas.{first-fewer}
use Rattle.nfa_meta.proofs.regex.Regex.splitn_all.Goals as goal

pub returns-clause-spans : goal.returns-clause-spans
returns-clause-spans c = λ some.
    let items = c.in_ok-matches.matches.items in
    let found = c.in_ok-matches.ensures in
    let r = c.args.self.now.choice in
    let firsts = first-fewer r c.args.haystack.now c.new-2.ensures items c.args.limit some found.first found.as_many in
    record {
      matches = map found_of items;
      first = firsts.0;
      as_many = firsts.1;
      spans_are = c.in_ok-spans.ensures.spans
          ∙ ap (λ (ms : List Match). gap_spans 0 (length c.args.haystack.now) (map found_of ms)) c.deref.ensures.value;
    }
