-- The law, of this match.
use Rattle.std.proofs.Common.{option_map, refl}
use Rattle.nfa_engines.specs.Found.{found_of}
use Rattle.nfa_engines.specs.Search.{Search, search_of}
use Rattle.nfa_engines.specs.Anchored.TheVariants.{Yes}
use Rattle.nfa_engines.specs.Paths.{IsFindAnswer}
use Rattle.callers.proofs.KindLemmas.{as_leftmost}
use Rattle.callers.proofs.order.first_match_of_texts.Goals as goal

pub returns : goal.returns
returns c = λ k.
    let x : Search = record (search_of c.args.input) { anchored = Yes } in
    let nfa = c.args.vm.now.nfa in
    let found = option_map found_of c.find.result in
    let order = c.compiled_nfas_try_patterns_in_order.ensures in
    let records = c.compiled_nfas_record_bounds.ensures.texts _ _ nfa c.requires.compiled in
    c.first_pattern_is_found.ensures.matches nfa x k found c.pikevm_nfa_is_valid.ensures c.requires.anywhere refl
    (order.texts _ _ nfa x c.requires.compiled) (order.texts_alone _ _ nfa x c.requires.compiled refl)
    (c.match_spans_are_written.ensures nfa x records)
    (as_leftmost (λ kind b t. IsFindAnswer nfa kind b t found) c.anchored-anchored.ensures c.requires.kind
    c.requires.off c.find.ensures.answer)
