-- The byte after the span may be read, or there is none.
use Rattle.nfa_paths.proofs.Common.{◌≤◌, ◌<◌, sym, subst, arith, length, slice_get-get_or, slice_get_past, search_of}
use Rattle.nfa_lazy_dfa.specs.Assertions.{IsRead}
use Rattle.nfa_lazy_dfa.proofs.CacheLemmas.{row-inside}
use Rattle.nfa_lazy_dfa.proofs.StopLemmas.{IsStop-gave_up, IsUsedUp-at}
use Rattle.nfa_lazy_dfa.proofs.scan.last.Goals as goal

pub returns-then-at-haystack-clause-read : goal.returns-then-at-haystack-clause-read
returns-then-at-haystack-clause-read c =
    let x = search_of c.args.input.now in
    let at = c.args.place.at in
    let less : at < length x.haystack = grind arith in
    subst (IsRead c.args.dfa.now.nfa) (sym (slice_get-get_or x.haystack at 0 less)) c.in_ok-next.ensures.leads.next.read

pub end-requires-clause-row : goal.end-requires-clause-row
end-requires-clause-row c = row-inside c.args.cache.now c.args.place.row c.requires.at.stance c.requires.at.is

pub returns-in-Ok-clause-read : goal.returns-in-Ok-clause-read
returns-in-Ok-clause-read c =
    let x = search_of c.args.input.now in
    let at = c.args.place.at in
    let past : length x.haystack ≤ at = grind arith in
    subst (IsRead c.args.dfa.now.nfa) (sym (slice_get_past x.haystack at past)) tt

pub returns-in-Err-clause-stops : goal.returns-in-Err-clause-stops
returns-in-Err-clause-stops c =
    IsStop-gave_up c.args.dfa.now.nfa (search_of c.args.input.now) c.at.result c.in-Err.gave_up c.args.place.at
    c.at.ensures (record { low = c.requires.at.low; high = c.requires.at.high })

pub returns-in-Err-clause-full : goal.returns-in-Err-clause-full
returns-in-Err-clause-full c =
    IsUsedUp-at c.end.new.self c.args.dfa.now c.at.result c.in-Err.gave_up c.args.place.at c.at.ensures
    c.in-Err.ensures.full

pub returns-in-Ok-clause-hit : goal.returns-in-Ok-clause-hit
returns-in-Ok-clause-hit c =
    let x = search_of c.args.input.now in
    let at = c.args.place.at in
    let past : length x.haystack ≤ at = grind arith in
    λ s row. rw (slice_get_past x.haystack at past) (c.in-Ok.ensures.hit s row)
