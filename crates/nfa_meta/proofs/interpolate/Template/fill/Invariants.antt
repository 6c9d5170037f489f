-- What was appended is what stands for the parts so far.
use Rattle.std.proofs.Common.{◌≡◌, ◌++◌, take}
use Rattle.nfa_meta.specs.Templates.{filled}
use Rattle.nfa_meta.proofs.interpolate.Template.fill.Given as goal

abbrev pub invariant-loop-part : goal.invariant-loop-part
invariant-loop-part l =
    l.output.items ≡ l.fn.output.items ++ filled l.haystack l.captures (take l.part-index l.self.parts.items)
