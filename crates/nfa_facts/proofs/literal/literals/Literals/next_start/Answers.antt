-- No match starts before the bytes that each match begins with, or has more bytes than the span.
use Rattle.nfa_paths.proofs.Common.{◌+◌, ◌<◌, ◌≤◌, All, IfSome, arith, length, search_of, subst}
use Rattle.nfa_facts.specs.Levels.{AdmitsMatches}
use Rattle.nfa_facts.proofs.FewLemmas.{none-then, some-then}
use Rattle.nfa_facts.proofs.LevelLemmas.{first-to-admitted, nothing-admitted}
use Rattle.nfa_facts.proofs.literal.literals.Literals.next_start.Goals as goal

pub returns-then-not-is_empty-clause-nothing : goal.returns-then-not-is_empty-clause-nothing
returns-then-not-is_empty-clause-nothing c =
    let nfa = c.args.nfa.now in
    let x = search_of c.args.input.now in
    none-then c.find_prefix.result
    (λ none. c.no_match_without_prefix.ensures nfa x c.args.self.now.prefix.items c.args.from c.requires.unbound
    c.requires.of.begins c.requires.first none)
    (rw c.haystack-haystack.ensures at (rw c.end-end.ensures.value at (rw c.deref.ensures.value at
    c.find_prefix.ensures.nowhere)))

pub returns-then-not-is_empty-clause-first : goal.returns-then-not-is_empty-clause-first
returns-then-not-is_empty-clause-first c =
    let nfa = c.args.nfa.now in
    let x = search_of c.args.input.now in
    some-then c.find_prefix.result
    (λ at here. c.starts_without_prefix_may_be_passed.ensures.first nfa x c.args.self.now.prefix.items c.args.from at
    c.requires.of.begins c.requires.first here)
    (rw c.haystack-haystack.ensures at (rw c.end-end.ensures.value at (rw c.deref.ensures.value at
    c.find_prefix.ensures.first)))

pub returns-then-len-self-clause-nothing : goal.returns-then-len-self-clause-nothing
returns-then-len-self-clause-nothing c =
    let x = search_of c.args.input.now in
    let least = c.args.self.now.least in
    let fewer : x.end < x.start + least =
    omega (arith, c.if-len-self.true, c.len.ensures, c.get_span.ensures.start, c.get_span.ensures.end) in
    c.no_match_in_fewer_bytes.ensures c.args.nfa.now x least c.requires.unbound c.requires.of.least fewer

pub returns-in-Some-clause-nothing : goal.returns-in-Some-clause-nothing
returns-in-Some-clause-nothing c =
    let nfa = c.args.nfa.now in
    let x = search_of c.args.input.now in
    let fits : c.args.input.now.span.end ≤ length c.args.input.now.haystack.now = omega arith in
    let small : All (λ b. b < 256) x.haystack = rw c.haystack-haystack.ensures at c.first_start.ensures.bytes in
    let admits : AdmitsMatches nfa c.in-Some.levels =
    subst (λ o. IfSome o (AdmitsMatches nfa)) c.in-Some.is c.requires.of.levels in
    none-then c.first_start.result
    (λ none. nothing-admitted nfa x c.in-Some.levels admits fits small c.requires.unbound c.args.from
    c.requires.first none)
    (rw c.haystack-haystack.ensures at (rw c.end-end.ensures.value at c.first_start.ensures.nowhere))

pub returns-in-Some-clause-first : goal.returns-in-Some-clause-first
returns-in-Some-clause-first c =
    let nfa = c.args.nfa.now in
    let x = search_of c.args.input.now in
    let fits : c.args.input.now.span.end ≤ length c.args.input.now.haystack.now = omega arith in
    let small : All (λ b. b < 256) x.haystack = rw c.haystack-haystack.ensures at c.first_start.ensures.bytes in
    let admits : AdmitsMatches nfa c.in-Some.levels =
    subst (λ o. IfSome o (AdmitsMatches nfa)) c.in-Some.is c.requires.of.levels in
    some-then c.first_start.result
    (λ at none. first-to-admitted nfa x c.in-Some.levels admits fits small c.args.from at c.requires.first none)
    (rw c.haystack-haystack.ensures at (rw c.end-end.ensures.value at c.first_start.ensures.passed))
