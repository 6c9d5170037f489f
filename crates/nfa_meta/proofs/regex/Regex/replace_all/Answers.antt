-- The matches that were replaced are those of the text.
use Rattle.nfa_paths.proofs.Common.{◌∙◌, List, ap, map, found_of, Match}
use Rattle.nfa_meta.specs.Replaced.{replaced}
use Rattle.nfa_meta.proofs.GapLemmas.{all-of}
use Rattle.nfa_meta.proofs.regex.Regex.replace_all.Goals as goal

pub returns-clause-replaced : goal.returns-clause-replaced
returns-clause-replaced c = record {
  matches = map found_of c.in-Ok.matches.items;
  all = all-of c.args.self.now.choice c.args.haystack.now c.new.ensures c.in-Ok.matches.items c.in-Ok.ensures.lists.all;
  output_is = c.in_ok-output.ensures
      ∙ ap (λ (ms : List Match). replaced c.args.haystack.now c.args.bytes.now 0 (map found_of ms))
      c.deref.ensures.value;
}
