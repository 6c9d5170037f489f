-- The steps may be made, give the captures of the input, and keep the numbers of the cache.
use Rattle.nfa_paths.proofs.Common.{[], refl, IfErr-weaker, search_of}
use Rattle.nfa_search_base.specs.Common.{with_cache}
use Rattle.nfa_search_base.proofs.DrainedLemmas.{all-filled, begins-made, begun-serves, calls-cache, error-captures, filler_items}
use Rattle.nfa_pikevm.proofs.CapturesLemmas.{captures_kept, pike_filler}
use Rattle.nfa_pikevm.proofs.engine.PikeVM.captures_all.Goals as goal

pub all_with-requires : goal.all_with-requires
all_with-requires c =
    begun-serves pike_filler (begins-made pike_filler c.args.self.now c.args.cache.now c.new.result c.requires
    c.in_ok-create_captures.ensures.made c.new.ensures)

pub returns-in_err-create_captures-clause-searches : goal.returns-in_err-create_captures-clause-searches
returns-in_err-create_captures-clause-searches c = record { answers = []; steps = refl }

pub returns : goal.returns
returns c =
    let vm = c.args.self.now in
    let begun = begins-made pike_filler vm c.args.cache.now c.new.result c.requires
    c.in_ok-create_captures.ensures.made c.new.ensures in
    let left = with_cache c.all_with.new.self c.all_with.new.cache in
    let given = c.all_with.ensures in
    let all = all-filled pike_filler begun c.all_with.result (λ v. v.items) left given.all given.calls in
    let memory = IfErr-weaker c.all_with.result _ _
    (λ error h. error-captures (pike_filler.rows vm (search_of c.args.input)) begun.begins
    (λ t e from to never. absurd never) error left h) given.errors in
    let capacities = calls-cache captures_kept (filler_items pike_filler) (with_cache c.new.result c.args.cache.now)
    left given.calls in
    assumption (all, memory, capacities)
