-- The iterator gives the spans around the matches of the text, and keeps the engine.
use Rattle.nfa_meta.proofs.SplitLemmas.{split-given, split-inside, split-kept}
use Rattle.nfa_meta.proofs.regex.Regex.split.Goals as goal

pub returns : goal.returns
returns c =
    let made = c.begin_split.ensures in
    record {
      same_reference = made.same_reference;
      same_regex = made.same_regex;
      runs = (split-given made.begins).runs;
      inside = split-inside _ _ _ made.begins;
      keeps = split-kept _;
    }
