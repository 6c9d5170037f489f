-- One more number was appended, and all were.
use Rattle.nfa_paths.proofs.Common.{YieldsList-end, YieldsList-from_first, patterns_left, rules, ◌≡◌, ◌∙◌, ℕ, List, [], ◌∷◌, ◌++◌, map, ap, ap₂, arith, sym, append-nil, decimal, join_with_byte, length-append, number_of, PatternID, patterns_of}
use Rattle.nfa_grep.specs.Printed.{comma}
use Rattle.nfa_grep.proofs.PaintedLemmas.{appended-more, numbers-first, numbers-more}
use Rattle.nfa_grep.proofs.which.append_set.Goals.{then-not-first+in_ok-extend_from_slice, else-not-first}
use Rattle.nfa_grep.proofs.which.append_set.Goals as goal

pub loop-pattern-preserved : goal.loop-pattern-preserved
loop-pattern-preserved c =
    let inv = c.loop-pattern.invariant in
    let before = c.args.out.now.items in
    let xs = c.loop-pattern.yielded in
    let x = c.in-Some.pattern in
    let text : c.as_bytes.result.now ≡ decimal (number_of x) = search rules in
    record {
      appended = elim c.if-not-first.branch [
        | then-not-first+in_ok-extend_from_slice w ↦
            appended-more before (join_with_byte comma (map decimal (map number_of xs))) (decimal (number_of x))
            c.loop-pattern.out.items c.if-not-first.out.items _ comma inv.appended
            (ap (λ v. v.items) w.out-is ∙ w.in_ok-extend_from_slice.ensures.items)
            (c.in_ok-extend_from_slice-2.ensures.items ∙ ap (λ l. c.if-not-first.out.items ++ l) text)
            ∙ ap (λ l. before ++ l) (sym (numbers-more number_of xs x (inv.some w.if-not-first.true)))
        | else-not-first w ↦
            let none = inv.none w.if-not-first.false in
            let empty : join_with_byte comma (map decimal (map number_of xs)) ≡ [] =
            ap (λ (ys : List PatternID). join_with_byte comma (map decimal (map number_of ys))) none in
            c.in_ok-extend_from_slice-2.ensures.items
            ∙ ap₂ (λ (l m : List ℕ). l ++ m) (ap (λ v. v.items) w.out-is ∙ inv.appended ∙ ap (λ l. before ++ l) empty
            ∙ append-nil before) text
            ∙ ap (λ l. before ++ l) (sym (numbers-first number_of xs x none))
      ];
      none = λ bad. absurd (cc);
      some = λ same. omega (arith, length-append xs (x ∷ []));
    }

pub returns : goal.returns
returns c =
    let set = patterns_of c.args.set.now in
    let from = YieldsList-from_first number_of patterns_left set
    (ap patterns_left c.into_iter-pattern-iterator.ensures.into_iter_gives ∙ c.iter-pattern-items.ensures.all) in
    let all : map number_of c.loop-pattern.yielded ≡ set =
    (YieldsList-end from c.loop-pattern.yielded c.loop-pattern.pattern-iterator c.loop-pattern.yielded_by c.next.result
    c.next.new.self c.in-None.is c.next.ensures.steps).0 in
    c.loop-pattern.invariant.appended
    ∙ ap (λ l. c.args.out.now.items ++ join_with_byte comma (map decimal l)) all
