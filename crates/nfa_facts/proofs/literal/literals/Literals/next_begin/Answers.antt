-- No match starts before the bytes that matches may begin with, or before the line of a byte that each match has.
use Rattle.nfa_paths.proofs.Common.{◌≤◌, All, IfSome, ◌<◌, arith, length, search_of, subst}
use Rattle.nfa_engines.specs.StartLaws.{IsFirstStart}
use Rattle.nfa_facts.specs.RequiredBytes.{IsRequired}
use Rattle.nfa_facts.proofs.FewLemmas.{none-then, others-passed, some-then}
use Rattle.nfa_facts.proofs.literal.literals.Literals.next_begin.Goals as goal

pub returns-in-None-clause-first : goal.returns-in-None-clause-first
returns-in-None-clause-first c =
    let x = search_of c.args.input.now in
    let fits : c.args.input.now.span.end ≤ length c.args.input.now.haystack.now = omega arith in
    let small : All (λ b. b < 256) x.haystack = rw c.haystack-haystack.ensures at c.next-at.ensures.bytes in
    others-passed c.args.nfa.now x c.args.self.now.first c.args.from c.next-at.result
    c.bytes_may_be_skipped.ensures.nothing c.requires.of.among fits small c.requires.first c.next-at.ensures.onward
    (rw c.end-end.ensures.value at c.next-at.ensures.within)
    (rw c.haystack-haystack.ensures at c.next-at.ensures.lacks)

pub returns-in-Some-clause-nothing : goal.returns-in-Some-clause-nothing
returns-in-Some-clause-nothing c =
    let nfa = c.args.nfa.now in
    let x = search_of c.args.input.now in
    let fits : c.args.input.now.span.end ≤ length c.args.input.now.haystack.now = omega arith in
    let small : All (λ b. b < 256) x.haystack = rw c.haystack-haystack.ensures at c.next-at.ensures.bytes in
    let first : IsFirstStart nfa x c.next-at.result =
    others-passed c.args.nfa.now x c.args.self.now.first c.args.from c.next-at.result
    c.bytes_may_be_skipped.ensures.nothing c.requires.of.among fits small c.requires.first c.next-at.ensures.onward
    (rw c.end-end.ensures.value at c.next-at.ensures.within)
    (rw c.haystack-haystack.ensures at c.next-at.ensures.lacks) in
    let required : IsRequired nfa c.in-Some.required =
    subst (λ o. IfSome o (IsRequired nfa)) c.in-Some.is c.requires.of.has in
    none-then c.first_start.result
    (λ lacks. c.no_match_without_required_bytes.ensures nfa x c.in-Some.required c.next-at.result
    c.requires.unbound required first lacks)
    (rw c.haystack-haystack.ensures at (rw c.end-end.ensures.value at c.first_start.ensures.nowhere))

pub returns-in-Some-clause-first : goal.returns-in-Some-clause-first
returns-in-Some-clause-first c =
    let nfa = c.args.nfa.now in
    let x = search_of c.args.input.now in
    let fits : c.args.input.now.span.end ≤ length c.args.input.now.haystack.now = omega arith in
    let small : All (λ b. b < 256) x.haystack = rw c.haystack-haystack.ensures at c.next-at.ensures.bytes in
    let first : IsFirstStart nfa x c.next-at.result =
    others-passed c.args.nfa.now x c.args.self.now.first c.args.from c.next-at.result
    c.bytes_may_be_skipped.ensures.nothing c.requires.of.among fits small c.requires.first c.next-at.ensures.onward
    (rw c.end-end.ensures.value at c.next-at.ensures.within)
    (rw c.haystack-haystack.ensures at c.next-at.ensures.lacks) in
    let required : IsRequired nfa c.in-Some.required =
    subst (λ o. IfSome o (IsRequired nfa)) c.in-Some.is c.requires.of.has in
    some-then c.first_start.result
    (λ at lacks. c.starts_without_required_bytes_may_be_passed.ensures.moves nfa x c.in-Some.required
    c.next-at.result at required first lacks)
    (rw c.haystack-haystack.ensures at (rw c.end-end.ensures.value at c.first_start.ensures.passed))
