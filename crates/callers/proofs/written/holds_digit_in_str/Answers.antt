-- The text is read as the class of the digits, and a digit starts on a boundary.
use Rattle.std.specs.Char.{is_ascii_digit}
use Rattle.regex_hir.specs.Re.{byte_in}
use Rattle.nfa_compiler.proofs.Literals.{class-anywhere}
use Rattle.callers.proofs.DigitLemmas.{digits, digit-read-in-str, digit-starts, is-digit}
use Rattle.callers.proofs.written.holds_digit_in_str.Goals as goal

pub returns : goal.returns
returns c =
    let line = c.args.line.now in
    let same = digit-starts line in
    let found = c.in_ok-found.ensures (byte_in digits) digit-read-in-str in
    class-anywhere line digits is_ascii_digit is-digit _ (λ e. same.0 (found.0 e), λ m. found.1 (same.1 m))
