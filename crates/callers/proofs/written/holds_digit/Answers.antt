-- The text is read as the class of the digits.
use Rattle.std.specs.Char.{is_ascii_digit}
use Rattle.regex_hir.specs.Re.{byte_in}
use Rattle.nfa_compiler.proofs.Literals.{class-anywhere}
use Rattle.callers.proofs.DigitLemmas.{digits, digit-read, is-digit}
use Rattle.callers.proofs.written.holds_digit.Goals as goal

pub returns : goal.returns
returns c =
    class-anywhere c.args.line.now digits is_ascii_digit is-digit _
    (c.in_ok-found.ensures (byte_in digits) digit-read)
