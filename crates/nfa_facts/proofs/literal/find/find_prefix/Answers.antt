-- The part of the haystack is searched.
use Rattle.std.proofs.Common.{◌≤◌, length, subst, arith, Option, None, Some, IfNone, slice_range}
use Rattle.memchr.specs.Find.{FindsNeedle}
use Rattle.nfa_facts.proofs.OccurrenceLemmas.{part-first, part-nowhere}
use Rattle.nfa_facts.proofs.literal.find.find_prefix.Goals as goal

if-none : {T : Type 0} (r : Option T) {P : Type 0} → P → IfNone r P
if-none None p = p
if-none (Some x) p = tt

pub returns-in_err-at-clause-nowhere : goal.returns-in_err-at-clause-nowhere
returns-in_err-at-clause-nowhere c =
    let haystack = c.args.haystack.now in
    let bytes = c.args.prefix.now in
    let within : c.args.end ≤ length haystack = omega arith in
    let onward : c.args.from ≤ c.args.end = omega arith in
    if-none c.from_residual.result
    (part-nowhere haystack bytes c.args.from c.args.end within onward
    (subst (FindsNeedle (slice_range haystack c.args.from c.args.end) bytes 0) c.in_err-at.was c.find_in.ensures))

pub returns-clause-first : goal.returns-clause-first
returns-clause-first c =
    let haystack = c.args.haystack.now in
    let bytes = c.args.prefix.now in
    let within : c.args.end ≤ length haystack = omega arith in
    let onward : c.args.from ≤ c.args.end = omega arith in
    part-first haystack bytes c.args.from c.args.end within onward c.in_ok-at.at
    (subst (FindsNeedle (slice_range haystack c.args.from c.args.end) bytes 0) c.in_ok-at.was c.find_in.ensures)
