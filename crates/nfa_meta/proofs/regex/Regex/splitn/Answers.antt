-- The iterator gives the first spans around the matches of the text, and keeps the engine.
use Rattle.nfa_paths.proofs.Common.{refl}
use Rattle.nfa_meta.proofs.SplitNLemmas.{splitn-given, splitn-inside}
use Rattle.nfa_meta.proofs.SplitLemmas.{splitn-kept}
use Rattle.nfa_meta.proofs.regex.Regex.splitn.Goals as goal

pub returns : goal.returns
returns c =
    let made = c.begin_split.ensures in
    record {
      same_reference = made.same_reference;
      same_regex = made.same_regex;
      runs = (splitn-given made.begins c.args.limit refl).runs;
      inside = splitn-inside made.begins;
      keeps = splitn-kept _;
    }
