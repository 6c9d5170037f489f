-- Bytes that each match has are in each line that is selected, and lines without them may be passed.
use Rattle.nfa_paths.proofs.Common.{◌≡◌, ◌∙◌, ℕ, ◌+◌, Bool, true, false, All, List, [], ◌++◌, length, refl, sym, ap, arith, Option, None, Some, IfSome, if◌then◌else◌, not, AllZip, false_from_ne_true, IfSome_then, All-nil}
use Rattle.nfa_compiler.specs.Common.{SameCaptures}
use Rattle.nfa_grep.specs.Required.{OccursIn}
use Rattle.program_text.specs.Lines.{HasBytes, Lacks, PassesRecords}
use Rattle.program_text.specs.declared.passed.Passed.{Passed}
use Rattle.program_text.proofs.LineLemmas.{bytes-record, occurs-record}
use Rattle.nfa_grep.specs.Going.{HasPassed, printed_later, Groups, LineStart}
use Rattle.nfa_grep.specs.Printed.{Item, IsNeeded, is_selected, text_of}
use Rattle.nfa_grep.specs.Meant.{is_found, Options, Re}
use Rattle.nfa_grep.proofs.GroupedLemmas.{passes-none}
use Rattle.nfa_grep.proofs.MeantLemmas.{found-same}

-- a line that is selected has a match, and so it has the bytes
pub needed-of : (options : Options) (trees res : List Re) (bytes : List ℕ) → AllZip SameCaptures trees res
    → options.inverted ≡ false
    → ((text : List ℕ) → HasBytes text → is_found trees text ≡ true → OccursIn text bytes)
    → IsNeeded options res bytes
needed-of options trees res bytes same straight has = λ line small selected.
    let text = text_of options line in
    let small-here : HasBytes text = bytes-record options.end line small in
    let found : is_found res text ≡ true =
    sym (ap (λ (b : Bool). if b then not (is_found res text) else is_found res text) straight) ∙ selected in
    let here = has text small-here (found-same text small-here trees res same ∙ found) in
    (here.0, occurs-record bytes options.end line here.0 here.1)

module _ (options : Options) (res : List Re) where
  pub lacking : (bytes line : List ℕ) → IsNeeded options res bytes → HasBytes line → Lacks line bytes
      → is_selected options res line ≡ false
  lacking bytes line needed small lacks =
      false_from_ne_true (is_selected options res line) (λ selected. let here = needed line small selected in
      lacks here.0 here.1)

  -- records without the bytes are lines that are not selected
  pub passes-lines : (before left : Option (List ℕ)) (bytes : List ℕ) (passed : Passed) (at next : LineStart)
      (old new : Groups)
      → IsNeeded options res bytes → PassesRecords options.end bytes before left passed
      → next.number ≡ at.number + passed.count → next.offset ≡ at.offset + passed.len → old.left ≡ 0
      → ((items : List Item) → passed.count ≡ length items → All (λ item. item.selected ≡ false) items
      → (later : List Item) → printed_later old (items ++ later) ≡ printed_later new later)
      → IfSome before (λ text. HasPassed options res text left at next old new)
  passes-lines before left bytes passed at next old new needed passes number-is offset-is none-left prints =
      IfSome_then before passes (λ text there. record {
        lines = there.lines;
        first = there.first;
        number_is = number-is ∙ ap (λ (n : ℕ). at.number + n) there.count_is;
        offset_is = offset-is ∙ ap (λ (n : ℕ). at.offset + n) there.len_is;
        unselected = λ k d less. lacking bytes _ needed (there.bytes_are k d less) (there.without k d less);
        none_left = λ some. none-left;
        printed_is = λ items same. prints items (there.count_is ∙ same);
      })

  -- no line was passed
  pub passes-nothing : (input : Option (List ℕ)) (at : LineStart) (groups : Groups)
      → IfSome input (λ text. HasPassed options res text input at at groups groups)
  passes-nothing None at groups = tt
  passes-nothing (Some text) at groups = record {
    lines = [];
    first = record { rest = text; left_is = refl; lines_are = refl };
    number_is = omega arith;
    offset_is = omega arith;
    unselected = All-nil (λ line. is_selected options res line ≡ false);
    none_left = λ some. absurd (omega arith);
    printed_is = λ items same none later. ap (printed_later groups) (passes-none items later (sym same));
  }
