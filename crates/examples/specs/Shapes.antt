-- Dates, versions and IPv4 addresses, in words of the text.
use Rattle.std.specs.Prelude.{ℕ, List, codes}
use Rattle.std.specs.Char.{is_ascii_digit}
use Rattle.std.specs.Int.{is_in_range}
use Rattle.nfa_compiler.specs.Texts.{Bytes, BytesOrMore, DecimalBelow, Exactly, Times, ◌followed_by◌, ◌or_else◌}

-- n digits
abbrev pub Digits : ℕ → List ℕ → Type 0
Digits n = Bytes is_ascii_digit n n

-- four digits, a dash, two digits, a dash and two digits
abbrev pub IsDate : List ℕ → Type 0
IsDate =
    Digits 4 followed_by Exactly (codes "-") followed_by Digits 2 followed_by Exactly (codes "-") followed_by Digits 2

-- a zero, or digits of which the first is 1 to 9
abbrev pub IsNumber : List ℕ → Type 0
IsNumber = Exactly (codes "0") or_else Bytes (is_in_range 0x31 0x39) 1 1 followed_by BytesOrMore is_ascii_digit 0

-- three numbers with dots between them
abbrev pub IsVersion : List ℕ → Type 0
IsVersion =
    IsNumber followed_by Exactly (codes ".") followed_by IsNumber followed_by Exactly (codes ".") followed_by IsNumber

-- four numbers below 256 in decimal, with dots between them
abbrev pub IsIpv4 : List ℕ → Type 0
IsIpv4 = Times 3 (DecimalBelow 256 followed_by Exactly (codes ".")) followed_by DecimalBelow 256
