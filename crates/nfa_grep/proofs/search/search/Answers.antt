-- The search goes on by a line, and ends where nothing is left to read, or the limit is reached and nothing is left to
-- print.
use Rattle.nfa_paths.proofs.Common.{Appends, rules, ◌≡◌, ◌∙◌, ℕ, ◌+◌, Bool, false, true, ap, arith, subst, sym, refl, ◌&&◌, ◌==◌, cond, nat_lt, not, IfSome_then}
use Rattle.nfa_grep.specs.Meant.{Grepping, Mean}
use Rattle.nfa_grep.proofs.GoingLemmas.{going-end, going-init, going-pass, going-stop, going-take}
use Rattle.nfa_grep.proofs.search.search.Goals.{then-taken, else-taken}
use Rattle.nfa_grep.proofs.search.search.Goals as goal

pub loop-init : goal.loop-init
loop-init g c = record {
  printed = λ res meant. going-init c.args.grep.now.options res c.args.request.name.now c.args.request.context
      c.args.request.used c.args.request.limit
      (g.R.Read.remaining c.args.input.now) (g.W.Write.contents c.args.out.now)
      c.new-groups.result c.new-groups.ensures.printed c.new-groups.ensures.none_left;
  counted = omega arith;
  kept = search rules;
  in_order = c.new-groups.ensures.in_order;
  context = c.new-groups.ensures.context;
}

pub returns-then-is_done-clause-printed : goal.returns-then-is_done-clause-printed
returns-then-is_done-clause-printed g c = λ res meant.
    let limit = c.args.request.limit in
    let over : (not (nat_lt c.loop.count limit) && (c.loop.groups.left == 0)) ≡ true =
    search rules in
    IfSome_then (g.R.Read.remaining c.args.input.now) (c.loop.invariant.printed res meant)
    (λ text going. going-stop going over)

pub returns-in_default-clause-printed : goal.returns-in_default-clause-printed
returns-in_default-clause-printed g c = λ res meant.
    let inv = c.loop.invariant in
    let limit = c.args.request.limit in
    let input = g.R.Read.remaining c.pass_lines.new.input in
    let meant-here = subst (λ (gr : Grepping). Mean gr res) (sym inv.kept) meant in
    let more : (not (nat_lt c.loop.count limit) && (c.loop.groups.left == 0)) ≡ false =
    search rules in
    let over = rw inv.kept at (c.in_ok-at.ensures.passed res meant-here) in
    let none = rw (c.in_default.is, inv.kept) at (c.in_ok-taken.ensures.taken res meant-here) in
    IfSome_then (g.R.Read.remaining c.args.input.now) (inv.printed res meant) (λ text going.
    going-end (going-pass going input c.loop.at c.in_ok-at.at c.pass_lines.new.groups refl refl more
    c.in_ok-at.ensures.same_left over) (g.R.Read.remaining c.take_next.new.input) none.0 none.1
    c.in_ok-at.ensures.in_order)

pub loop-preserved : goal.loop-preserved
loop-preserved g c =
    let inv = c.loop.invariant in
    let count : ℕ = c.loop.count in
    let request = c.args.request in
    let passed = c.pass_lines.new.groups in
    let new = c.take_next.new.groups in
    let at = c.in_ok-at.at in
    let taken = c.in-Some.taken in
    record {
      printed = λ res meant.
          let context = request.context in
          let limit = request.limit in
          let input = g.R.Read.remaining c.pass_lines.new.input in
          let meant-here = subst (λ (gr : Grepping). Mean gr res) (sym inv.kept) meant in
          let more : (not (nat_lt count limit) && (c.loop.groups.left == 0)) ≡ false =
          search rules in
          let more-passed : (not (nat_lt count limit) && (passed.left == 0)) ≡ false =
          rw c.in_ok-at.ensures.same_left more in
          let context-is : passed.context ≡ context = c.in_ok-at.ensures.same_context ∙ inv.context in
          let middle = g.W.Write.contents c.write_bytes.new.out in
          let last = g.W.Write.contents c.write_bytes-in-loop.new.out in
          let first-part : Appends (g.W.Write.contents c.loop.out) middle new.ahead.items =
          rw c.deref.ensures.value at c.in_ok-write_bytes.ensures in
          let second-part : Appends middle last new.text.items =
          rw c.deref-in-loop.ensures.value at c.in_ok-write_bytes-2.ensures in
          let counted : Bool → ℕ = λ (s : Bool). cond s (count + 1) count in
          let count-is : c.if-taken.count ≡ counted taken.selected = elim c.if-taken.branch [
            | then-taken w ↦ w.count-is ∙ sym (ap counted w.if-taken.true)
            | else-taken w ↦ w.count-is ∙ sym (ap counted w.if-taken.false)
          ] in
          let next = rw (c.in-Some.is, inv.kept) at
          (c.in_ok-taken.ensures.taken res meant-here) in
          let over = rw inv.kept at (c.in_ok-at.ensures.passed res meant-here) in
          rw count-is (IfSome_then (g.R.Read.remaining c.args.input.now) (inv.printed res meant) (λ text going.
          let here = going-pass going input c.loop.at at passed refl refl more c.in_ok-at.ensures.same_left over in
          going-take here (g.R.Read.remaining c.take_next.new.input) middle last c.place-place.result new taken
          c.place-place.ensures.name c.place-place.ensures.number c.place-place.ensures.offset context-is
          more-passed next first-part second-part));
      counted = elim c.if-taken.branch [
        | then-taken w ↦ omega (arith, w.count-is, inv.counted)
        | else-taken w ↦ omega (arith, w.count-is, inv.counted)
      ];
      kept = search rules;
      in_order = search rules;
      context = search rules;
    }
