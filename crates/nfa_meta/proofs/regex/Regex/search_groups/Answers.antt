-- The choice searched after what only sure steps and the lazy DFA searched.
use Rattle.nfa_paths.proofs.Common.{◌∙◌, search_of}
use Rattle.nfa_meta.proofs.RegexLemmas.{regex_then}
use Rattle.nfa_meta.proofs.RunLemmas.{parts-ran, runs-later}
use Rattle.nfa_meta.proofs.regex.Regex.search_groups.Goals as goal

pub returns-in-None-clause-runs : goal.returns-in-None-clause-runs
returns-in-None-clause-runs c =
    let x = search_of c.args.input.now in
    let a = c.write_whole.new.self in
    let b = c.found_or_part.new.self in
    let d = c.write_groups.new.self in
    let end = c.search_window-in-None.new.self in
    runs-later c.args.self.now a end c.write_whole.ensures.same x c.write_whole.ensures.keeps
    (runs-later a d end (c.write_groups.ensures.same ∙ c.found_or_part.ensures.same) x
    (regex_then a b d c.found_or_part.ensures.keeps c.write_groups.ensures.keeps) c.search_window-in-None.ensures.runs)

pub returns-in-Err-clause-runs : goal.returns-in-Err-clause-runs
returns-in-Err-clause-runs c =
    let x = search_of c.args.input.now in
    let a = c.write_whole.new.self in
    let end = c.search_part.new.self in
    runs-later c.args.self.now a end c.write_whole.ensures.same x c.write_whole.ensures.keeps
    (parts-ran a c.found_or_part.new.self end c.found_or_part.ensures.same x c.in-Err.part c.in-Err.ensures.why
    c.search_part.ensures.keeps.stops c.search_part.ensures.none c.search_part.ensures.runs)
