-- The case of letters: of those of ASCII only. All other bytes stay.
use Rattle.std.specs.Prelude.{ℕ, List, [], ◌∷◌}
use Rattle.std.specs.Char.{to_ascii_lowercase, to_ascii_uppercase}
use Rattle.replacer.specs.declared.case.Case.{Case}
use Rattle.replacer.specs.declared.case.Case.TheVariants as case
use Rattle.replacer.specs.declared.case.CaseEscape.{CaseEscape}
use Rattle.replacer.specs.declared.case.CaseEscape.TheVariants as escape
use Rattle.replacer.specs.declared.case.Casing.{Casing}

-- the byte in this case
abbrev pub in_case : Case → ℕ → ℕ
in_case case.Kept byte = byte
in_case case.Upper byte = to_ascii_uppercase byte
in_case case.Lower byte = to_ascii_lowercase byte

-- this case, or another one if it is `Kept`
abbrev pub or_case : Case → Case → Case
or_case case.Kept other = other
or_case case.Upper other = case.Upper
or_case case.Lower other = case.Lower

-- the next byte, with the case that it gets
abbrev pub cased_byte : Casing → ℕ → ℕ
cased_byte casing byte = in_case (or_case casing.first casing.rest) byte

-- the casing after a byte
abbrev pub after_byte : Casing → Casing
after_byte casing = record casing { first = case.Kept }

-- the bytes, with the case that they get
abbrev pub cased : Casing → List ℕ → List ℕ
cased casing [] = []
cased casing (byte ∷ bytes) = cased_byte casing byte ∷ cased (after_byte casing) bytes

-- the casing after these bytes
abbrev pub casing_after : Casing → List ℕ → Casing
casing_after casing [] = casing
casing_after casing (byte ∷ bytes) = casing_after (after_byte casing) bytes

-- The casing after an escape. `\U`, `\L` and `\E` hold for all bytes up to the next one of these three. `\u` and `\l`
-- hold for the next byte, whatever the others say of it.
abbrev pub after_escape : Casing → CaseEscape → Casing
after_escape casing escape.End = record casing { rest = case.Kept }
after_escape casing escape.Upper = record casing { rest = case.Upper }
after_escape casing escape.Lower = record casing { rest = case.Lower }
after_escape casing escape.FirstUpper = record casing { first = case.Upper }
after_escape casing escape.FirstLower = record casing { first = case.Lower }

-- the casing at the start of a template
abbrev pub uncased : Casing
uncased = record { first = case.Kept; rest = case.Kept }
