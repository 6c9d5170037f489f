-- A step searches once, and a second time if the first answer repeats the last match.
use Rattle.nfa_paths.proofs.Common.{rules, ◌≡◌, true, false}
use Rattle.nfa_search_base.specs.Common.{iter_state_of, repeats}
use Rattle.nfa_search_base.proofs.StepLemmas.{step-once, step-twice}
use Rattle.nfa_search_base.proofs.iter.searcher.Searcher.step_with.Goals as goal

pub returns-then-not-moves_on : goal.returns-then-not-moves_on
returns-then-not-moves_on g c =
    let once : c.moves_on.result ≡ false = search rules in
    let new : repeats (iter_state_of c.args.self.now) c.reply_span-reply_span.result ≡ false = search rules in
    let reply = c.reply_span-reply_span.ensures in
    rw (c.set_last_match.ensures, c.moves_on.ensures.stays once) (step-once c.requires c.args.self.now.ends_by
    (record { asked = c.answer-once.ensures; is = reply.span; ordered = reply.ordered }) new)

pub returns : goal.returns
returns g c =
    let moved : c.moves_on.result ≡ true = search rules in
    let again : repeats (iter_state_of c.args.self.now) c.reply_span-reply_span.result ≡ true = search rules in
    let once = c.reply_span-reply_span.ensures in
    let twice = c.reply_span-reply_span-2.ensures in
    rw c.set_last_match-2.ensures (step-twice c.requires c.args.self.now.ends_by
    (record { asked = c.answer-once.ensures; is = once.span; ordered = once.ordered }) again
    (c.moves_on.ensures.moved moved).0
    (record { asked = c.answer-twice.ensures; is = twice.span; ordered = twice.ordered }))
