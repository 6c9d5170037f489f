-- A step may be made, never errs, and leaves what the iterator keeps.
use Rattle.nfa_paths.proofs.Common.{found_of}
use Rattle.nfa_search_base.specs.Common.{with_cache, steps_with_state, span_of}
use Rattle.nfa_search_base.proofs.StoredLemmas.{surely-inside}
use Rattle.nfa_choice.proofs.FindLemmas.{finder-goes, finder-serves}
use Rattle.nfa_meta.specs.Matches.{AsksByWindow, MayFindByWindow, finds_steps}
use Rattle.nfa_meta.proofs.MatchesLemmas.{regex_finder}
use Rattle.nfa_meta.proofs.regex.find_iter.FindMatchesIterator.next.Goals as goal

pub next_with-requires : goal.next_with-requires
next_with-requires c =
    let s = c.args.self.now in
    surely-inside MayFindByWindow AsksByWindow span_of found_of (steps_with_state (finds_steps s))
    (finder-serves regex_finder (steps_with_state (finds_steps s)) s.knows)

pub invariant_of-self : goal.invariant_of-self
invariant_of-self c =
    let s = c.args.self.now in
    record {
      knows = finder-goes regex_finder (steps_with_state (finds_steps s)) c.next_with.result
          (with_cache c.next_with.new.self c.next_with.new.cache) c.next_with.ensures s.knows;
    }
