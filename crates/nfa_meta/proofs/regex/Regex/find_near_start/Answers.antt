-- A search keeps itself.
use Rattle.nfa_paths.proofs.Common.{refl}
use Rattle.nfa_meta.proofs.RegexLemmas.{regex_self}
use Rattle.nfa_meta.proofs.regex.Regex.find_near_start.Goals as goal

pub loop-init : goal.loop-init
loop-init c = record {
  same = refl;
  keeps = regex_self c.args.self.now;
  first = c.requires.first;
  within = c.requires.within;
}
