-- Each accepting path of a search is a way, and so writes its bounds if each way does.
use Rattle.nfa_paths.proofs.Common.{◌≡◌, List, refl, arith, true, Search, is_anchored, Automaton, Pair, In, PathTo, starts, edges}
use Rattle.nfa_paths.proofs.FirstStartLemmas.{start-of}
use Rattle.nfa_facts.specs.MatchSpanLaws.{EverySearchIsRecorded}
use Rattle.nfa_paths.specs.StatePaths.{IsStatePath}
use Rattle.nfa_paths.proofs.OpenPathLemmas.{linked-open}

-- an anchored search starts at the start of its span
pub start-anchored : (nfa : Automaton) (x : Search) → is_anchored x.anchored ≡ true → (v : Pair)
    → In v (starts nfa x) → v.1 ≡ x.start
start-anchored nfa x bound v i = (start-of nfa x v i).tied (rw bound refl)

module _ (nfa : Automaton) (x : Search) where
  -- an accepting path is a way
  path-way : (end : Pair) (p : List Pair) → PathTo (edges nfa x) (starts nfa x) end p → IsStatePath nfa end p
  path-way end p path = grind (arith, start-of, linked-open)

pub paths-recorded : EverySearchIsRecorded
paths-recorded nfa x records end p path matches = records end p (path-way nfa x end p path) matches
