-- After a clearing no mark is set.
use Rattle.nfa_paths.proofs.Common.{with_items, refl, ap, ◌≡◌, ◌∙◌, false, length, replicate, with_items_is}
use Rattle.nfa_scan_core.specs.Marks.{Marks}
use Rattle.nfa_backtrack.specs.Bits.{bits_of}
use Rattle.nfa_backtrack.proofs.BitLemmas.{bits_of-zeroed}
use Rattle.nfa_backtrack.proofs.visited.Visited.clear.Goals as goal

pub returns : goal.returns
returns c =
    let old = ap (λ (m : Marks). m.bits) c.self.view_is in
    let turns = ap (λ (m : Marks). m.turns) c.self.view_is in
    let zeroed = bits_of-zeroed c.self.inside.used c.self.inside.blocks.items c.zero_below.new.blocks
    (c.zero_below.auto.blocks ∙ ap length c.as_mut_slice.ensures.value) c.self.invariant.1 c.zero_below.ensures.below
    (λ i h. c.zero_below.ensures.others i h ∙ rw c.as_mut_slice.ensures.value refl) in
    let size = c.zero_below.auto.blocks ∙ c.as_mut_slice.ensures.len in
    let bits : bits_of (with_items c.self.inside.blocks c.zero_below.new.blocks).items
    ≡ replicate (length c.args.self.now.bits) false =
    ap bits_of (with_items_is c.self.inside.blocks c.zero_below.new.blocks size) ∙ rw (← old) zeroed in
    λ i. record { bits = bits i; turns = turns i }
