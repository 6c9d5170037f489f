-- The steps may be made, and give the captures of the input.
use Rattle.nfa_paths.proofs.Common.{◌≡◌, [], false, refl, true, search_of}
use Rattle.nfa_search_base.specs.Common.{with_cache}
use Rattle.nfa_search_base.proofs.DrainedLemmas.{all-filled, begins-made, begun-serves}
use Rattle.nfa_backtrack.specs.Backtrack.{IsTooLong}
use Rattle.nfa_backtrack.proofs.CapturesLemmas.{back_filler, captures-by_length}
use Rattle.nfa_backtrack.proofs.engine.BoundedBacktracker.try_captures_all.Goals as goal

pub all_with-requires : goal.all_with-requires
all_with-requires c =
    begun-serves back_filler (begins-made back_filler c.args.self.now c.args.cache.now c.new.result tt
    c.in_ok-create_captures.ensures.made c.new.ensures)

pub returns-then-is_too_long-clause-searches : goal.returns-then-is_too_long-clause-searches
returns-then-is_too_long-clause-searches c = record { answers = []; steps = refl }

pub returns-in_err-create_captures-clause-searches : goal.returns-in_err-create_captures-clause-searches
returns-in_err-create_captures-clause-searches c = record { answers = []; steps = refl }

pub returns : goal.returns
returns c =
    let e = c.args.self.now in
    let x = search_of c.args.input in
    let begun = begins-made back_filler e c.args.cache.now c.new.result tt c.in_ok-create_captures.ensures.made
    c.new.ensures in
    let left = with_cache c.all_with.new.self c.all_with.new.cache in
    let given = c.all_with.ensures in
    let fits : ¬ (IsTooLong e x) =
    λ long. let k : false ≡ true = c.if-is_too_long.ensures.1 long in cc in
    let all = all-filled back_filler begun c.all_with.result (λ v. v.items) left given.all given.calls in
    let by_length = captures-by_length e x begun.begins fits c.all_with.result left given.errors in
    let early : IsTooLong e x → c.all_with.new.cache ≡ c.args.cache.now = λ long. absurd (fits long) in
    assumption (all, by_length, early)
