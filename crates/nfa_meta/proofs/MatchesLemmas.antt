-- A regex as the engine of an iteration over matches.
use Rattle.nfa_paths.proofs.Common.{le-max_left, ◌≡◌, ◌*◌, Option, arith, inl, length, refl, subst, found_of, Search, Match}
use Rattle.nfa_search_base.specs.Common.{SameButStart, IsKnownFrom}
use Rattle.nfa_pikevm.specs.Engines.{Pike}
use Rattle.nfa_pikevm.specs.Finding.{IsSureOf}
use Rattle.nfa_choice.specs.Iterations.{FindsBy}
use Rattle.nfa_choice.proofs.FindLemmas.{FinderBy}
use Rattle.nfa_meta.specs.Matches.{AsksByWindow, MayFindByWindow}
use Rattle.nfa_meta.specs.RegexState.{RegexState, pike_of}
use Rattle.nfa_meta.specs.WindowRuns.{by_window}
use Rattle.nfa_meta.proofs.RegexLemmas.{regex_self, regex_keeps}
use Rattle.nfa_meta.specs.declared.regex.find_iter.ByWindow.{ByWindow}

-- what is known of searches is known of the ones that differ in their start
pub known-like : (vm : Pike) (x t : Search) (known : Option Match) → SameButStart x t → IsKnownFrom IsSureOf vm x known
    → IsKnownFrom IsSureOf vm t known
known-like vm x t known same knows = λ m is.
    let like : record x { start = m.span.end } ≡ record t { start = m.span.end } =
    rw (same.haystack, same.end, same.anchored, same.earliest) refl in
    subst (λ (y : Search). IsSureOf vm y (found_of m)) like (knows m is)

-- the searches of its iterator
abbrev pub regex_finder : FinderBy by_window ByWindow
regex_finder = record {
  keeps = regex_keeps;
  asks = AsksByWindow;
  May = MayFindByWindow;
  tells = λ s t a s' asked. asked.tells;
  works = λ s t a s' asked. asked.work;
  like = λ s x t same may. known-like (pike_of s.cache) x t s.backend.known same may;
  goes = λ s t a s' may asked. asked.knows;
}

-- a search with a known answer changes nothing
pub known-work : (x : Search) (e : RegexState) → FindsBy by_window x e e
known-work x e = record {
  runs = inl (inl refl);
  holds = record {
    frames = omega arith;
    slots_kept = omega arith;
    slots = le-max_left e.choice.back.slots (2 * length e.choice.nfa.groups);
  };
  keeps = regex_self e;
}
