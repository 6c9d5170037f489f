-- Without an only text, what was written is the list of the strings.
use Rattle.nfa_paths.proofs.Common.{◌≡◌, ◌∙◌, None, ap, option_map, subst, sym}
use Rattle.std.specs.Fmt.{DisplaysOnOk}
use Rattle.nfa_meta.specs.Texts.{only_text}
use Rattle.nfa_meta.proofs.TextLemmas.{debug_of_strings}
use Rattle.nfa_meta.proofs.regex.texts.RegexDebug.fmt.Goals as goal

pub returns-in-None : goal.returns-in-None
returns-in-None g c =
    let texts = c.args.self.now.texts in
    let none : only_text texts ≡ None = sym c.as_str.ensures ∙ ap (option_map (λ text. text.now)) c.in-None.is in
    record {
      writes = subst (λ out. DisplaysOnOk g.W.Write.write_str_gives c.args.f.now c.write-in-None.result out
          c.write-in-None.new.self)
          (sym (debug_of_strings texts c.patterns-texts.result.now c.patterns-texts.ensures none))
          c.write-in-None.ensures.writes;
    }
