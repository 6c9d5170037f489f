-- The other capabilities are left.
use Rattle.std.proofs.Common.{◌≡◌, drop, map}
use Rattle.grep_options.specs.Colours.{palette_of, with_all}
use Rattle.grep_options.proofs.colours.with_all.Given as goal

abbrev pub invariant-loop-capability : goal.invariant-loop-capability
invariant-loop-capability l = with_all (palette_of l.colours) (map (λ part. part.now) l.capabilities)
    ≡ with_all (palette_of l.all) (map (λ part. part.now) (drop l.capability-index l.capabilities))
