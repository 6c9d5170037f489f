-- The text so far says the parts so far.
use Rattle.nfa_paths.proofs.Common.{◌≤◌, ◌-◌, length, number_of}
use Rattle.nfa_meta.specs.TemplateTexts.{AreParts}
use Rattle.nfa_meta.proofs.interpolate.Template.parse.Given as goal

abbrev pub invariant-loop-at : goal.invariant-loop-at
invariant-loop-at l = record {
  parts : AreParts l.groups (number_of l.pattern) l.text l.parts.items l.at;
  within : l.at ≤ length l.text;
}

abbrev pub decreases-loop-at : goal.decreases-loop-at
decreases-loop-at l = length l.text - l.at
