-- The line is printed after its head, in colours if there are any.
use Rattle.nfa_paths.proofs.Common.{◌≡◌, ℕ, ◌++◌, Bool, List, append_assoc}
use Rattle.nfa_grep.specs.Meant.{Options, Re}
use Rattle.nfa_grep.specs.Printed.{has_text, head, line_in, mark_of, shown_whole}
use Rattle.nfa_grep.proofs.grep.Grep.append_whole.Goals as goal

whole : (options used : Options) (end : ℕ) (res : List Re) (name : List ℕ) (number offset : ℕ)
    (line before middle after mark text : List ℕ) (some : Bool) → used ≡ options → mark ≡ mark_of options res line
    → middle ≡ before ++ head used end name mark number offset some → some ≡ has_text used line
    → text ≡ line_in options.colours options end res line → after ≡ middle ++ text
    → after ≡ before ++ shown_whole options end res name number offset line
whole options used end res name number offset line before middle after mark text some same mark-is first some-is
    text-is second =
    rw (second, first, some-is, mark-is, same, text-is)
    (append_assoc before (head options end name (mark_of options res line) number offset (has_text options line))
    (line_in options.colours options end res line))
