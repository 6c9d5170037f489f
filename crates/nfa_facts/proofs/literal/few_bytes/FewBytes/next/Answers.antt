-- The part of the haystack is searched.
use Rattle.std.proofs.Common.{◌≡◌, ◌+◌, ◌-◌, ◌≤◌, arith, length, slice_range, subst}
use Rattle.std.proofs.lemmas.List.Edits.{length-between}
use Rattle.memchr.specs.Find.{IsFirstByte}
use Rattle.nfa_facts.specs.FewBytes.{LacksBetween, is_among}
use Rattle.nfa_facts.proofs.FewLemmas.{lacks-up-to}
use Rattle.nfa_facts.proofs.literal.few_bytes.FewBytes.next.Goals as goal

pub returns-then-from-end-clause-lacks : goal.returns-then-from-end-clause-lacks
returns-then-from-end-clause-lacks c = record { none = λ k low less. absurd (omega arith) }

pub returns-in-Some-clause-lacks : goal.returns-in-Some-clause-lacks
returns-in-Some-clause-lacks c =
    let haystack = c.args.haystack.now in
    let part = slice_range haystack c.args.from c.args.end in
    let within : c.args.end ≤ length haystack = omega arith in
    let size : length (slice_range haystack c.args.from c.args.end) ≡ c.args.end - c.args.from =
    length-between haystack c.args.from c.args.end within in
    let found = subst (IsFirstByte (is_among c.args.self.now) part) c.in-Some.is c.find.ensures in
    lacks-up-to c.args.self.now haystack c.args.from c.args.end c.in-Some.at within
    (omega (arith, size, found.0.high)) found.0.before

pub returns-in-None-clause-lacks : goal.returns-in-None-clause-lacks
returns-in-None-clause-lacks c =
    let few = c.args.self.now in
    let haystack = c.args.haystack.now in
    let part = slice_range haystack c.args.from c.args.end in
    let within : c.args.end ≤ length haystack = omega arith in
    let size : length (slice_range haystack c.args.from c.args.end) ≡ c.args.end - c.args.from =
    length-between haystack c.args.from c.args.end within in
    let whole : c.args.from + length (slice_range haystack c.args.from c.args.end) ≡ c.args.end =
    omega (arith, size) in
    let none = subst (IsFirstByte (is_among few) part) c.in-None.is c.find.ensures in
    subst (LacksBetween few haystack c.args.from) whole
    (lacks-up-to few haystack c.args.from c.args.end (length part) within (omega (arith, size)) none)
