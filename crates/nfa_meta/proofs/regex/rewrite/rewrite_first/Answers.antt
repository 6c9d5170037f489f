-- After one more call the output has what comes for one more match. At the end these were the first ones.
use Rattle.nfa_paths.proofs.Common.{rules, common_steps, ◌≡◌, ◌≤◌, ◌++◌, ◌∷◌, [], All-nil, All-push, IfOk-weaker, arith, length, refl, slice_range, take_all, whole}
use Rattle.std.proofs.lemmas.List.{length_push}
use Rattle.nfa_search_base.specs.Common.{CapturesInside, HasGroups, match_in, with_cache}
use Rattle.nfa_search_base.proofs.LentLemmas.{lent-more}
use Rattle.nfa_meta.specs.CapturesSteps.{captures_call}
use Rattle.nfa_meta.specs.Rewritten.{Writes}
use Rattle.nfa_meta.proofs.CaughtLemmas.{first-caught, steps-first, steps-over, steps-turn}
use Rattle.nfa_meta.proofs.RegexLemmas.{regex_self, regex_then}
use Rattle.nfa_meta.proofs.RewriteLemmas.{rewritten-by, so_far-all, so_far-more, so_far-none}
use Rattle.nfa_meta.proofs.regex.rewrite.rewrite_first.Goals as goal

pub loop-init : goal.loop-init
loop-init g c = record {
  caught = [];
  ran = refl;
  so_far = so_far-none g.F.FnMut c.args.haystack.now c.args.replacement c.new-output.result.items
      (first_of (search rules, grind (arith, common_steps)));
  groups = c.requires.begins.groups;
  keeps = regex_self c.args.regex.now;
  inside = All-nil (CapturesInside (whole c.args.haystack.now));
  grouped = All-nil (HasGroups c.args.regex.now.choice.nfa);
  count = refl;
}

pub copy_to_match-requires-clause-inside : goal.copy_to_match-requires-clause-inside
copy_to_match-requires-clause-inside g c =
    let l = c.loop in
    let to = with_cache c.next_captures.new.steps c.next_captures.new.regex in
    let turn = steps-turn c.args.regex c.args.regex.now c.args.haystack.now c.args.steps c.requires.begins
    l.invariant.caught (with_cache l.steps l.regex) to.backend.backend.captures to l.invariant.ran
    (c.next_captures.ensures.some c.if-not-next_captures.false) in
    rw c.captures_in-lent.ensures turn.0

pub copy_to_match-requires-clause-before : goal.copy_to_match-requires-clause-before
copy_to_match-requires-clause-before g c =
    let l = c.loop in
    let to = with_cache c.next_captures.new.steps c.next_captures.new.regex in
    let turn = steps-turn c.args.regex c.args.regex.now c.args.haystack.now c.args.steps c.requires.begins
    l.invariant.caught (with_cache l.steps l.regex) to.backend.backend.captures to l.invariant.ran
    (c.next_captures.ensures.some c.if-not-next_captures.false) in
    let start = (match_in to.backend.backend.captures).start in
    let before : l.from ≤ start = omega (arith, l.invariant.so_far.ends, turn.1) in
    rw c.captures_in-lent.ensures before

pub replacement-requires : goal.replacement-requires
replacement-requires g c =
    let l = c.loop in
    let to = with_cache c.next_captures.new.steps c.next_captures.new.regex in
    let turn = steps-turn c.args.regex c.args.regex.now c.args.haystack.now c.args.steps c.requires.begins
    l.invariant.caught (with_cache l.steps l.regex) to.backend.backend.captures to l.invariant.ran
    (c.next_captures.ensures.some c.if-not-next_captures.false) in
    let inside : CapturesInside (whole c.args.haystack.now) c.captures_in-lent.result.now =
    rw c.captures_in-lent.ensures turn.0 in
    c.requires.takes l.replacement _ _ l.invariant.so_far.leads inside

pub loop-preserved : goal.loop-preserved
loop-preserved g c =
    let text = c.args.haystack.now in
    let l = c.loop in
    let i = l.invariant in
    let from = with_cache l.steps l.regex in
    let to = with_cache c.next_captures.new.steps c.next_captures.new.regex in
    let d = to.backend.backend.captures in
    let call = c.next_captures.ensures.some c.if-not-next_captures.false in
    let turn = steps-turn c.args.regex c.args.regex.now text c.args.steps c.requires.begins i.caught from d to i.ran
    call in
    let before = l.output.items ++ slice_range text l.from (match_in d).start in
    let after = c.replacement.new.arg3.items in
    let w : Writes g.F.FnMut l.replacement d before after c.replacement.new.self =
    record {
      shown = c.captures_in-lent.result;
      shows = c.captures_in-lent.ensures;
      lent = _;
      lends = rw c.captures_in-lent.ensures at c.in_ok-end.ensures.output;
      left = _;
      called = c.in_ok-replacement.ensures;
      leaves = refl;
    } in
    let keeps = regex_then c.args.regex.now l.regex c.next_captures.new.regex i.keeps c.next_captures.ensures.keeps in
    record {
      caught = i.caught ++ d ∷ [];
      ran = lent-more captures_call i.caught (with_cache c.args.steps c.args.regex.now) from to d i.ran call;
      so_far = so_far-more g.F.FnMut text i.so_far turn.0
          (rw c.captures_in-lent.ensures at c.in_ok-end.ensures.end) w;
      groups = c.next_captures.ensures.groups;
      keeps = keeps;
      inside = All-push (CapturesInside (whole text)) i.caught d i.inside turn.0;
      grouped = All-push (HasGroups c.args.regex.now.choice.nfa) i.caught d i.grouped
          (rw keeps.engines.nfa at c.next_captures.ensures.groups);
      count = omega (arith, i.count, length_push i.caught d);
    }

-- all captures of the text were rewritten
pub returns-then-not-next_captures-clause-rewritten : goal.returns-then-not-next_captures-clause-rewritten
returns-then-not-next_captures-clause-rewritten g c =
    let text = c.args.haystack.now in
    let l = c.loop in
    let i = l.invariant in
    let to = with_cache c.next_captures.new.steps c.next_captures.new.regex in
    let all = steps-over c.args.regex c.args.regex.now text c.args.steps c.requires.begins i.caught
    (with_cache l.steps l.regex) to i.ran (c.next_captures.ensures.none c.if-not-next_captures.true) in
    let few : length i.caught ≤ c.args.limit = omega (arith, i.count, c.loop-test.true) in
    IfOk-weaker c.with_rest.result _ _
    (λ output rest. record {
      caught = i.caught;
      all = all.0;
      writes = rw (take_all c.args.limit i.caught few) (so_far-all g.F.FnMut text i.so_far rest);
    })
    c.with_rest.ensures

pub returns-then-not-next_captures-clause-appended : goal.returns-then-not-next_captures-clause-appended
returns-then-not-next_captures-clause-appended g c = λ h appends.
    let text = c.args.haystack.now in
    let l = c.loop in
    let i = l.invariant in
    let to = with_cache c.next_captures.new.steps c.next_captures.new.regex in
    let all = steps-over c.args.regex c.args.regex.now text c.args.steps c.requires.begins i.caught
    (with_cache l.steps l.regex) to i.ran (c.next_captures.ensures.none c.if-not-next_captures.true) in
    let few : length i.caught ≤ c.args.limit = omega (arith, i.count, c.loop-test.true) in
    IfOk-weaker c.with_rest.result _ _
    (λ output rest. record {
      caught = i.caught;
      all = all.0;
      output_is = rw (take_all c.args.limit i.caught few)
          (rewritten-by g.F.FnMut text h i.caught all.1 c.args.replacement appends
          (so_far-all g.F.FnMut text i.so_far rest));
    })
    c.with_rest.ensures

pub returns-clause-rewritten : goal.returns-clause-rewritten
returns-clause-rewritten g c =
    let text = c.args.haystack.now in
    let l = c.loop in
    let i = l.invariant in
    let first = steps-first c.args.regex c.args.regex.now text c.args.steps c.requires.begins i.caught
    (with_cache l.steps l.regex) i.ran in
    let all = first-caught c.args.regex.now.choice text i.caught first i.grouped in
    let as_many : length i.caught ≡ c.args.limit = omega (arith, i.count, c.loop-test.false) in
    IfOk-weaker c.with_rest-2.result _ _
    (λ output rest. record {
      caught = all.0;
      all = all.1;
      writes = rw (← as_many, all.2) (so_far-all g.F.FnMut text i.so_far rest);
    })
    c.with_rest-2.ensures

pub returns-clause-appended : goal.returns-clause-appended
returns-clause-appended g c = λ h appends.
    let text = c.args.haystack.now in
    let l = c.loop in
    let i = l.invariant in
    let first = steps-first c.args.regex c.args.regex.now text c.args.steps c.requires.begins i.caught
    (with_cache l.steps l.regex) i.ran in
    let all = first-caught c.args.regex.now.choice text i.caught first i.grouped in
    let as_many : length i.caught ≡ c.args.limit = omega (arith, i.count, c.loop-test.false) in
    IfOk-weaker c.with_rest-2.result _ _
    (λ output rest. record {
      caught = all.0;
      all = all.1;
      output_is = rw (← as_many, all.2) (rewritten-by g.F.FnMut text h i.caught i.inside c.args.replacement appends
          (so_far-all g.F.FnMut text i.so_far rest));
    })
    c.with_rest-2.ensures
