-- The rules that are left decide of the path what all decide.
use Rattle.std.proofs.Common.{◌≡◌, drop, map}
use Rattle.std.specs.Str.{chars}
use Rattle.grep_options.specs.Ignored.{is_ignored, left_out, said}
use Rattle.grep_options.proofs.ignored.is_ignored.Given as goal

abbrev pub invariant-loop-rule : goal.invariant-loop-rule
invariant-loop-rule l =
    left_out l.folder (map (λ name. name.now) l.names.items) l.out (map said (drop l.rule-index l.rules))
    ≡ is_ignored (map said l.rules) l.folder (chars l.fn.path)
