-- The matches that were replaced are the first ones of the text.
use Rattle.nfa_paths.proofs.Common.{◌∙◌, List, ap, arith, map, length-map, found_of, Match}
use Rattle.nfa_meta.specs.Replaced.{replaced}
use Rattle.nfa_meta.proofs.GapLemmas.{as-many, first-of}
use Rattle.nfa_meta.proofs.regex.Regex.replacen.Goals as goal

pub returns-clause-first : goal.returns-clause-first
returns-clause-first c = λ some.
    let r = c.args.self.now.choice in
    let text = c.args.haystack.now in
    let items = c.in_ok-matches.matches.items in
    let found = c.in_ok-matches.ensures in
    record {
      matches = map found_of items;
      first = first-of r text c.new.ensures items found.first;
      few = omega (arith, found.few, length-map items found_of);
      as_many = as-many r text c.new.ensures items c.args.limit found.as_many;
      output_is = c.in_ok-output.ensures
          ∙ ap (λ (ms : List Match). replaced text c.args.bytes.now 0 (map found_of ms)) c.deref.ensures.value;
    }
