-- Texts that exports make: a pattern that means a text, and a text with its matches replaced.
use Rattle.std.specs.Prelude.{List, chars, encode_utf8_all, length, ℕ, ◌≡◌, ◌≢◌}
use Rattle.regex_syntax.specs.Verdict.{ReadsAsText, escaped_text}
use Rattle.nfa_choice.specs.ChoiceState.{ChoiceState}
use Rattle.nfa_meta.specs.Filled.{IsFilled}
use Rattle.nfa_meta.specs.TemplateTexts.{AreParts, IsMistake}
use Rattle.nfa_meta.specs.declared.interpolate.Part.{Part}
use Rattle.nfa_meta.specs.declared.interpolate.TemplateError.{TemplateError}
use Rattle.nfa_meta.specs.declared.interpolate.TemplateError.TheVariants.{Memory}
use Rattle.nfa_c.specs.Codes.{IsWritten}

-- a pattern was written that is read as this text
pub record WritesEscaped (text : List ℕ) (count : ℕ) (old new : List ℕ) : Type 0 where
  pub pattern : List ℕ
  pub pattern_is : pattern ≡ encode_utf8_all (escaped_text (chars text))
  pub reads : ReadsAsText pattern text
  pub written : IsWritten pattern count old new

module _ (c : ChoiceState) (template : List ℕ) where
  -- the text is the haystack with the template, filled by its captures, in place of each match
  pub record IsReplaced (haystack text : List ℕ) : Type 0 where
    pub parts : List Part
    pub read : AreParts c.nfa.groups 0 template parts (length template)
    pub filled : IsFilled c haystack parts text

  -- this text was written
  pub record WritesFilled (haystack : List ℕ) (count : ℕ) (old new : List ℕ) : Type 0 where
    pub text : List ℕ
    pub replaced : IsReplaced haystack text
    pub written : IsWritten text count old new

  -- the text is not a template: it has this mistake
  pub record IsNoTemplate : Type 0 where
    pub error : TemplateError
    pub mistake : IsMistake c.nfa.groups 0 template error
    pub cause : error ≢ Memory
