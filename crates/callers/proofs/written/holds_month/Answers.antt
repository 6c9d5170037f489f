-- The text is read as four digits, a dash and two digits, and these match where they stand.
use Rattle.std.proofs.Common.{◌≡◌, ◌+◌, Some, arith, refl, subst, slice_get}
use Rattle.std.proofs.lemmas.Option.{slice_get_within}
use Rattle.std.specs.Char.{is_ascii_digit}
use Rattle.nfa_compiler.proofs.Literals.{byte-match, class-match}
use Rattle.callers.specs.Texts.{HasDigits, HoldsMonth}
use Rattle.callers.proofs.DigitLemmas.{digits, is-digit, month, month-read}
use Rattle.callers.proofs.written.holds_month.Goals as goal

pub returns : goal.returns
returns c =
    let line = c.args.line.now in
    let found = c.in_ok-found.ensures month month-read in
    let run = class-match line digits is_ascii_digit is-digit in (
      λ e.
          let m = found.0 e in
          let year = (run 4 m.start m.matches.0).0 m.matches.1 in
          let dash = m.matches.2.1 in
          let last = (run 2 m.matches.2.0 m.end).0 m.matches.2.2 in
          let at : m.matches.2.0 ≡ m.start + 5 = omega (arith, year.1, dash.1) in
          record {
            at = m.start;
            year = year.0;
            dash = subst (λ p. slice_get line p ≡ Some 0x2D) year.1 ((byte-match line m.matches.0 0x2D).0 dash.0);
            month = subst (λ p. HasDigits line p 2) at last.0;
          },
      λ (h : HoldsMonth line). found.1 (record {
        start = h.at;
        end = h.at + 5 + 2;
        within = omega (arith, slice_get_within line (h.at + 4) 0x2D h.dash);
        matches = (
          h.at + 4,
          (run 4 h.at (h.at + 4)).1 (h.year, refl),
          (
            h.at + 5,
            ((byte-match line (h.at + 4) 0x2D).1 h.dash, omega arith),
            (run 2 (h.at + 5) (h.at + 5 + 2)).1 (h.month, refl),
          ),
        );
      }),
    )
