-- After one more call the output has what comes for one more match. At the end these were all matches.
use Rattle.nfa_paths.proofs.Common.{rules, ◌≤◌, ◌++◌, ◌∷◌, [], IfOk-weaker, arith, refl, slice_range, common_steps, whole}
use Rattle.nfa_search_base.specs.Common.{CapturesInside, match_in, with_cache}
use Rattle.nfa_search_base.proofs.LentLemmas.{lent-more}
use Rattle.nfa_meta.specs.CapturesSteps.{captures_call}
use Rattle.nfa_meta.specs.Rewritten.{Writes}
use Rattle.nfa_meta.proofs.CaughtLemmas.{call-fewer, steps-over, steps-turn}
use Rattle.nfa_meta.proofs.RegexLemmas.{regex_self, regex_then}
use Rattle.nfa_meta.proofs.RewriteLemmas.{rewritten-by, so_far-all, so_far-more, so_far-none}
use Rattle.nfa_meta.proofs.regex.rewrite.rewrite_all.Goals as goal

pub loop-steps-init : goal.loop-steps-init
loop-steps-init g c = record {
  caught = [];
  ran = refl;
  so_far = so_far-none g.F.FnMut c.args.haystack.now c.args.replacement c.new-output.result.items
      (first_of (search rules, grind (arith, common_steps)));
  groups = c.requires.begins.groups;
  keeps = regex_self c.args.regex.now;
}

pub copy_to_match-requires-clause-inside : goal.copy_to_match-requires-clause-inside
copy_to_match-requires-clause-inside g c =
    let l = c.loop-steps in
    let to = with_cache c.next_captures.new.steps c.next_captures.new.regex in
    let turn = steps-turn c.args.regex c.args.regex.now c.args.haystack.now c.args.steps c.requires.begins
    l.invariant.caught (with_cache l.steps l.regex) to.backend.backend.captures to l.invariant.ran
    (c.next_captures.ensures.some c.loop-steps-test.true) in
    rw c.captures_in-captures.ensures turn.0

pub copy_to_match-requires-clause-before : goal.copy_to_match-requires-clause-before
copy_to_match-requires-clause-before g c =
    let l = c.loop-steps in
    let to = with_cache c.next_captures.new.steps c.next_captures.new.regex in
    let turn = steps-turn c.args.regex c.args.regex.now c.args.haystack.now c.args.steps c.requires.begins
    l.invariant.caught (with_cache l.steps l.regex) to.backend.backend.captures to l.invariant.ran
    (c.next_captures.ensures.some c.loop-steps-test.true) in
    let start = (match_in to.backend.backend.captures).start in
    let before : l.from ≤ start = omega (arith, l.invariant.so_far.ends, turn.1) in
    rw c.captures_in-captures.ensures before

pub replacement-requires : goal.replacement-requires
replacement-requires g c =
    let l = c.loop-steps in
    let to = with_cache c.next_captures.new.steps c.next_captures.new.regex in
    let turn = steps-turn c.args.regex c.args.regex.now c.args.haystack.now c.args.steps c.requires.begins
    l.invariant.caught (with_cache l.steps l.regex) to.backend.backend.captures to l.invariant.ran
    (c.next_captures.ensures.some c.loop-steps-test.true) in
    let inside : CapturesInside (whole c.args.haystack.now) c.captures_in-captures.result.now =
    rw c.captures_in-captures.ensures turn.0 in
    c.requires.takes l.replacement _ _ l.invariant.so_far.leads inside

pub loop-steps-preserved : goal.loop-steps-preserved
loop-steps-preserved g c =
    let text = c.args.haystack.now in
    let l = c.loop-steps in
    let i = l.invariant in
    let from = with_cache l.steps l.regex in
    let to = with_cache c.next_captures.new.steps c.next_captures.new.regex in
    let d = to.backend.backend.captures in
    let call = c.next_captures.ensures.some c.loop-steps-test.true in
    let turn = steps-turn c.args.regex c.args.regex.now text c.args.steps c.requires.begins i.caught from d to i.ran
    call in
    let before = l.output.items ++ slice_range text l.from (match_in d).start in
    let after = c.replacement.new.arg3.items in
    let w : Writes g.F.FnMut l.replacement d before after c.replacement.new.self =
    record {
      shown = c.captures_in-captures.result;
      shows = c.captures_in-captures.ensures;
      lent = _;
      lends = rw c.captures_in-captures.ensures at c.in_ok-end.ensures.output;
      left = _;
      called = c.in_ok-replacement.ensures;
      leaves = refl;
    } in
    record {
      caught = i.caught ++ d ∷ [];
      ran = lent-more captures_call i.caught (with_cache c.args.steps c.args.regex.now) from to d i.ran call;
      so_far = so_far-more g.F.FnMut text i.so_far turn.0
          (rw c.captures_in-captures.ensures at c.in_ok-end.ensures.end) w;
      groups = c.next_captures.ensures.groups;
      keeps = regex_then c.args.regex.now l.regex c.next_captures.new.regex i.keeps c.next_captures.ensures.keeps;
    }

pub loop-steps-smaller : goal.loop-steps-smaller
loop-steps-smaller g c =
    let l = c.loop-steps in
    let to = with_cache c.next_captures.new.steps c.next_captures.new.regex in
    call-fewer (with_cache l.steps l.regex) to to.backend.backend.captures
    (c.next_captures.ensures.some c.loop-steps-test.true)

pub returns-clause-rewritten : goal.returns-clause-rewritten
returns-clause-rewritten g c =
    let text = c.args.haystack.now in
    let l = c.loop-steps in
    let i = l.invariant in
    let to = with_cache c.next_captures.new.steps c.next_captures.new.regex in
    let all = steps-over c.args.regex c.args.regex.now text c.args.steps c.requires.begins i.caught
    (with_cache l.steps l.regex) to i.ran (c.next_captures.ensures.none c.loop-steps-test.false) in
    IfOk-weaker c.with_rest.result _ _
    (λ output rest. record {
      caught = i.caught;
      all = all.0;
      writes = so_far-all g.F.FnMut text i.so_far rest;
    })
    c.with_rest.ensures

pub returns-clause-appended : goal.returns-clause-appended
returns-clause-appended g c = λ h appends.
    let text = c.args.haystack.now in
    let l = c.loop-steps in
    let i = l.invariant in
    let to = with_cache c.next_captures.new.steps c.next_captures.new.regex in
    let all = steps-over c.args.regex c.args.regex.now text c.args.steps c.requires.begins i.caught
    (with_cache l.steps l.regex) to i.ran (c.next_captures.ensures.none c.loop-steps-test.false) in
    IfOk-weaker c.with_rest.result _ _
    (λ output rest. record {
      caught = i.caught;
      all = all.0;
      output_is = rewritten-by g.F.FnMut text h i.caught all.1 c.args.replacement appends
          (so_far-all g.F.FnMut text i.so_far rest);
    })
    c.with_rest.ensures
