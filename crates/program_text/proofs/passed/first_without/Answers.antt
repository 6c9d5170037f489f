-- The whole records before the bytes are as many as they have ends.
use Rattle.std.proofs.Common.{rules, ◌∙◌, ◌<◌, ◌≤◌, ap, arith, length, length-take-le, subst, take}
use Rattle.std.proofs.lemmas.Grind.{common_steps}
use Rattle.std.proofs.lemmas.List.{take-take}
use Rattle.std.proofs.lemmas.List.Elements.{All-from_get_or}
use Rattle.bstr.proofs.lemmas.RecordLemmas.{records-nil}
use Rattle.program_text.specs.Lines.{EndsRecord}
use Rattle.program_text.proofs.LineLemmas.{records-whole, whole-front}
use Rattle.program_text.proofs.passed.first_without.Goals as goal

pub returns-then-is_empty-clause-whole : goal.returns-then-is_empty-clause-whole
returns-then-is_empty-clause-whole c = grind (arith, common_steps, records-nil, records-whole)

pub returns-clause-whole : goal.returns-clause-whole
returns-clause-whole c =
    let text = c.args.text.now in
    let before = c.first_or_len-before.result in
    let len = c.whole_len-len.result in
    let low = c.first_or_len-before.ensures.within in
    let within : len ≤ length (take before text) = c.whole_len-len.ensures.within in
    let short : len ≤ before = omega (arith, within, length-take-le before text low) in
    whole-front c.args.end c.args.bytes.now text before len c.count-count.result
    (All-from_get_or (λ b. b < 256) text 0 (λ k less. omega (arith, c.type_inv.text k))) (search rules) short low
    c.first_or_len-before.ensures.before
    (subst (EndsRecord c.args.end) (take-take len before text short) c.whole_len-len.ensures.whole)
    (c.count-count.ensures ∙ ap length c.memchr_iter.ensures.value)
