-- The law, of this match.
use Rattle.std.proofs.Common.{◌≡◌, ℕ, None, Some, Option, option_map, IfSome}
use Rattle.nfa_engines.specs.Found.{Found, found_of}
use Rattle.nfa_engines.specs.Match.{Match}
use Rattle.nfa_engines.specs.Search.{search_of}
use Rattle.callers.proofs.compiled.starts_the_span.Goals as goal

starts : (found : Option Match) (at : ℕ) → IfSome (option_map found_of found) (λ (m : Found). m.start ≡ at)
    → IfSome found (λ (m : Match). (found_of m).start ≡ at)
starts None at h = h
starts (Some m) at h = h

pub returns : goal.returns
returns c =
    let x = search_of c.args.input in
    starts c.args.found x.start
    (c.anchored_matches_start_the_span.ensures c.args.vm.now.nfa _ _ x _ c.pikevm_nfa_is_valid.ensures
    c.requires.anchored (c.compiled_nfas_record_bounds.ensures.texts _ _ c.args.vm.now.nfa c.requires.compiled)
    c.requires.answer)
