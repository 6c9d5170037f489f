-- The count of the value is one more.
use Rattle.nfa_paths.proofs.Common.{rules, ◌≡◌, ◌+◌, arith, common_steps, refl}
use Rattle.log_extractor.specs.Counts.{count_of}
use Rattle.log_extractor.proofs.CountLemmas.{tally-more}
use Rattle.log_extractor.proofs.count.add.Goals as goal

pub returns-in-Some : goal.returns-in-Some
returns-in-Some c = λ values tally.
    let next = c.in-Some-checked_add.next in
    let more : next ≡ count_of c.args.counts.now c.args.value.now + 1 =
    first_of (search rules, grind (arith, common_steps)) in
    tally-more values c.args.value.now c.args.value.now c.args.counts.now (c.get_mut.follows.lender next) next tally
    refl more ((c.get_mut.follows.holds next).3 (search rules))

pub returns : goal.returns
returns c = λ values tally.
    let same : c.in-Ok.key.items ≡ c.args.value.now = first_of (search rules, grind (arith, common_steps)) in
    let first : 1 ≡ count_of c.args.counts.now c.args.value.now + 1 =
    first_of (search rules, grind (arith, common_steps)) in
    tally-more values c.args.value.now c.in-Ok.key.items c.args.counts.now c.insert.new.self 1 tally same first
    (rw c.get_mut.follows.holds-at-none at c.in-Ok-insert.ensures.updates)
