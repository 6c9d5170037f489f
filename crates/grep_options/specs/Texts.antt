-- The texts of patterns, and of errors.
use Rattle.std.specs.Prelude.{ℕ, List, ◌++◌, ◌==◌, None, Option, Some, codes, decimal, string_bytes}
use Rattle.std.specs.List.{slice_split}
use Rattle.program_text.specs.Lines.{line_feed}
use Rattle.grep_options.specs.declared.error.OptionsError.{OptionsError}
use Rattle.grep_options.specs.declared.error.OptionsError.TheVariants as error

-- what is between the line feeds of a text: one line if it has none
abbrev pub lines_in : List ℕ → List (List ℕ)
lines_in text = slice_split (λ byte. byte == line_feed) text

-- what is said of an error, if it does not depend on the system
abbrev pub options_error_text : OptionsError → Option (List ℕ)
options_error_text error.Memory = Some (codes "out of memory")
options_error_text (error.NotText number text) =
    Some (codes "argument " ++ decimal number ++ codes " is not UTF-8: " ++ string_bytes text)
options_error_text error.Limit = Some (codes "invalid max count")
options_error_text error.Context = Some (codes "invalid context length argument")
options_error_text (error.Class glob) = Some (string_bytes glob ++ codes ": write [a-z] and not [[:lower:]]")
options_error_text (error.Basic pattern) =
    Some (string_bytes pattern ++ codes ": write it as for -E, and -E and not -G")
options_error_text (error.Perl pattern) =
    Some (string_bytes pattern ++ codes ": write it as for -E, and -E and not -P")
options_error_text _ = None
