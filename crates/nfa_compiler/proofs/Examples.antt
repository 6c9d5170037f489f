-- A pattern for each row of the table in docs/COOKBOOK.md.
use Rattle.nfa_paths.proofs.Common.{[], codes, is_ascii_digit}
use Rattle.nfa_compiler.specs.Written.{byte_syntax}
use Rattle.nfa_compiler.specs.Texts.{Bytes, BytesOrMore, Exactly, Times, ◌followed_by◌, ◌or_else◌}
use Rattle.nfa_compiler.proofs.Denotes.{IsWhole, any, branch, digit, end, group_of, last, maybe, on_literals, one, run, some, text, times, whole, ◌and_then◌, ◌before◌, ◌or◌}

runs : IsWhole byte_syntax (codes "\\A[0-9][0-9]{4}[0-9]{1,3}[0-9]+[0-9]*\\z")
    (Bytes is_ascii_digit 1 1 followed_by Bytes is_ascii_digit 4 4 followed_by Bytes is_ascii_digit 1 3 followed_by
    BytesOrMore is_ascii_digit 1 followed_by BytesOrMore is_ascii_digit 0)
unfolding on_literals
runs = whole (one digit before run 4 0 digit before run 1 2 digit before some digit before end (any digit))

branches : IsWhole byte_syntax (codes "\\A(?:a|bc)\\z")
    (Exactly (codes "a") or_else Exactly (codes "b") followed_by Exactly (codes "c"))
unfolding on_literals
branches = whole (end (last text or branch (text and_then last text)))

groups : IsWhole byte_syntax (codes "\\A(?:a){3}(?:b)?(c)\\z")
    (Times 3 (Exactly (codes "a")) followed_by (Exactly (codes "b") or_else Exactly []) followed_by Exactly (codes "c"))
unfolding on_literals
groups = whole
    (times 3 (branch (last text)) before maybe (branch (last text)) before end (group_of (branch (last text))))
