-- The start of the next pattern comes after those so far.
use Rattle.nfa_paths.proofs.Common.{rules, ◌≡◌, ◌∙◌, ◌∷◌, [], ◌++◌, Some, ap, arith, slice_get, sym, take, common_steps, take_more, get_or_from_slice_get, slice_get_within}
use Rattle.nfa_facts.proofs.captures.keep.pattern_starts.Goals as goal

pub loop-index-preserved : goal.loop-index-preserved
loop-index-preserved c =
    let patterns = c.args.nfa.now.patterns in
    let i = c.loop-index.index in
    let start = c.in_ok-start.start in
    let at : slice_get patterns i ≡ Some start = first_of (search rules, grind (arith, common_steps)) in
    let pushed : c.push.new.self.items ≡ c.loop-index.starts.items ++ start ∷ [] = search rules in
    pushed ∙ ap (λ l. l ++ start ∷ []) c.loop-index.invariant
    ∙ ap (λ s. take i patterns ++ s ∷ []) (sym (get_or_from_slice_get patterns i start start at))
    ∙ sym (take_more patterns i start (slice_get_within patterns i start at))
