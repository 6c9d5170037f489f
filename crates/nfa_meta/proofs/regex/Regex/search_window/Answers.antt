-- The choice searched the part that was needed.
use Rattle.nfa_paths.proofs.Common.{search_of}
use Rattle.nfa_meta.proofs.RunLemmas.{parts-ran}
use Rattle.nfa_meta.proofs.regex.Regex.search_window.Goals as goal

pub returns-clause-runs : goal.returns-clause-runs
returns-clause-runs c =
    parts-ran c.args.self.now c.part_to_search-part.new.self c.search_part.new.self c.part_to_search-part.ensures.same
    (search_of c.args.input.now) c.part_to_search-part.result c.part_to_search-part.ensures.why
    c.search_part.ensures.keeps.stops c.search_part.ensures.none c.search_part.ensures.runs
