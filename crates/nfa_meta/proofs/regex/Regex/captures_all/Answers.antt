-- The steps may be made, give the captures of the input, and keep the engines.
use Rattle.nfa_paths.proofs.Common.{◌∙◌, ℕ, List, length, map, subst, Captured, Search, search_of}
use Rattle.std.proofs.lemmas.List.{length-map}
use Rattle.std.proofs.lemmas.Result.{IfOk-weaker}
use Rattle.nfa_search_base.specs.Common.{row_of}
use Rattle.nfa_engines.specs.IterationLaws.{list_scan_limit}
use Rattle.nfa_choice.specs.Iterations.{CapturesToEnd}
use Rattle.nfa_meta.specs.RegexState.{RegexState}
use Rattle.nfa_meta.specs.WindowRuns.{by_window}
use Rattle.nfa_meta.specs.Work.{WorksWithin}
use Rattle.nfa_meta.proofs.ListWorkLemmas.{captures-work, rows-work}
use Rattle.nfa_meta.proofs.WorkLemmas.{works-none}
use Rattle.nfa_choice.proofs.CapturesLemmas.{all-caught, made-serves}
use Rattle.nfa_meta.proofs.RegexLemmas.{regex_keeps}
use Rattle.nfa_meta.proofs.regex.Regex.captures_all.Goals as goal

pub all_with-requires : goal.all_with-requires
all_with-requires c =
    let made = c.new.ensures in
    made-serves regex_keeps c.args.self.now c.in_ok-create_captures.ensures.made c.new.result (record {
      iter_state = made.iter_state;
      backend = made.backend ∙ c.new-finder.ensures;
      going = made.going;
    })

pub returns-in_err-create_captures-clause-work : goal.returns-in_err-create_captures-clause-work
returns-in_err-create_captures-clause-work c = works-none _ 0 (search_of c.args.input) c.args.self.now

pub returns : goal.returns
returns c =
    let x = search_of c.args.input in
    let made = c.new.ensures in
    let caught = all-caught regex_keeps c.args.self.now c.in_ok-create_captures.ensures.made c.new.result (record {
      iter_state = made.iter_state;
      backend = made.backend ∙ c.new-finder.ensures;
      going = made.going;
    })
    c.all_with.result c.all_with.ensures in
    record {
      memory = caught.memory;
      lists = caught.lists;
      inside = caught.inside;
      keeps = caught.keeps;
      work = captures-work x _ _ caught.searches;
      list_work = IfOk-weaker c.all_with.result _ _ (λ all end. all-work x all.items _ _ end) caught.to_end;
    }
  where
    all-work : (x : Search) (all : List Captured) (s t : RegexState) → CapturesToEnd by_window x (map row_of all) s t
        → WorksWithin (list_scan_limit s.choice.nfa x (length all)) 0 x s t
    all-work x all s t end = subst (λ (n : ℕ). WorksWithin (list_scan_limit s.choice.nfa x n) 0 x s t)
        (length-map all row_of) (rows-work x (map row_of all) s t end)
