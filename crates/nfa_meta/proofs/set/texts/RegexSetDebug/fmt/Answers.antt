-- What was written is the list of the strings.
use Rattle.nfa_paths.proofs.Common.{subst, sym}
use Rattle.std.specs.Fmt.{DisplaysOnOk}
use Rattle.nfa_meta.proofs.TextLemmas.{set_of_strings}
use Rattle.nfa_meta.proofs.set.texts.RegexSetDebug.fmt.Goals as goal

pub returns : goal.returns
returns g c = record {
  writes = subst (λ out. DisplaysOnOk g.W.Write.write_str_gives c.args.f.now c.write.result out c.write.new.self)
      (sym (set_of_strings c.args.self.now.texts c.patterns-texts.result.now c.patterns-texts.ensures))
      c.write.ensures.writes;
}
