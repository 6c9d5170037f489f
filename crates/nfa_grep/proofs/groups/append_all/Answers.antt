-- All texts were appended.
use Rattle.std.specs.VecDeque.Iter.{deque_iter_rest}
use Rattle.nfa_paths.proofs.Common.{vec_items, YieldsList-end, YieldsList-from_deque, flat_map-map, ◌≡◌, ◌∙◌, ◌++◌, ap, map, sym, flat_map}
use Rattle.nfa_grep.proofs.groups.append_all.Goals as goal

pub returns : goal.returns
returns c =
    let texts = c.args.texts.now.items in
    let from = YieldsList-from_deque texts
    (ap deque_iter_rest c.into_iter-text-iterator.ensures.into_iter_gives ∙ c.iter-text-items.ensures.rest) in
    let all : map (λ text. text.now) c.loop-text.yielded ≡ texts =
    (YieldsList-end from c.loop-text.yielded c.loop-text.text-iterator c.loop-text.yielded_by c.next.result
    c.next.new.self c.in-None.is c.next.ensures.steps).0 in
    c.loop-text.invariant
    ∙ ap (λ l. c.args.out.now.items ++ l) (sym (flat_map-map vec_items (λ text. text.now) c.loop-text.yielded)
    ∙ ap (flat_map vec_items) all)
