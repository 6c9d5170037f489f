-- What a leftmost first search makes of a set is one, and with room for each pattern all permitted paths count.
use Rattle.nfa_paths.proofs.Common.{◌≡◌, ℕ, ◌∙◌, ◌↔◌, ◌≤◌, inl, inr, Bool, true, false, List, length, sym, ap, arith, Option, None, Some, slice_index_or, cases_lt, ext_get_or, size_of_set, Search, Automaton, IsAutomaton, Pair, HoldsPattern, HoldsSelected, HoldsPath, IsFirstBefore, IsEarliestInsertable, IsInsertable, IsSelectedPath, IsOverlapResult, IsEarliestPath, IsFirstPath, IsPermitted, edges, starts, LeftmostFirst}
use Rattle.nfa_paths.proofs.SameScanLemmas.{earliest-along, first-along}
use Rattle.nfa_paths.proofs.PathToLemmas.{IsEarliestPath-unique}
use Rattle.nfa_paths.proofs.PatternLemmas.{node-pattern, some-pattern, ends-pattern}
use Rattle.nfa_paths.proofs.SetLemmas.{size-none}
use Rattle.nfa_engines.specs.IterationLaws.{EmptySetGains, IsOfAllPaths, IsPatternOfEarliest, OneSet}
use Rattle.nfa_paths.proofs.MemberLemmas.{same_test}

-- an empty set gains the patterns of the first paths before some limit
pub set-firsts : EmptySetGains false IsFirstBefore
set-firsts nfa x old new empty h k = of m.path m.meant m.holds
  where
    m : HoldsSelected nfa x false (length old) new
    m = h.gains.empty empty

    of : (path : Option (List Pair)) → IsSelectedPath nfa x false (length old) path → HoldsPath nfa x false path new
        → HoldsPattern new k ↔ IsFirstBefore nfa x (length old) k
    of None none empty = (
      λ held. absurd (size-none new empty k held),
      λ b. absurd (none b.first.end b.along b.first.path b.first.wanted.wanted),
    )
    of (Some p) first holds = rw h.capacity at (holds.exact k)

-- with `earliest` that of the earliest path
pub set-earliest : EmptySetGains true IsPatternOfEarliest
set-earliest nfa x old new empty h k = of m.path m.meant m.holds
  where
    m : HoldsSelected nfa x true (length old) new
    m = h.gains.empty empty

    one : (r s : Option (List Pair)) → IsEarliestInsertable nfa x (length old) r
        → IsEarliestInsertable nfa x (length old) s → r ≡ s
    one = IsEarliestPath-unique (edges nfa x) (starts nfa x) (IsInsertable nfa x (length old))

    of : (path : Option (List Pair)) → IsSelectedPath nfa x true (length old) path → HoldsPath nfa x true path new
        → HoldsPattern new k ↔ IsPatternOfEarliest nfa x (length old) k
    of None none empty = (λ held. absurd (size-none new empty k held), λ e. absurd (cc (one None (Some e.0) none e.1)))
    of (Some p) first holds =
        let is = ends-pattern nfa p holds.end holds.ends ∙ holds.pattern_is in (
          λ held. (p, first, is ∙ ap Some (sym ((holds.holds k).0 held))),
          λ e. grind (arith, one (Some p) (Some e.0) first e.1, is, e.2, holds.holds k),
        )

-- so a search makes one set of a set
pub first_set-unique : OneSet LeftmostFirst
first_set-unique nfa x earliest old new other h k =
    elim (cases_lt 0 (size_of_set old)) [
      | inl some ↦ h.gains.full some ∙ sym (k.gains.full some)
      | inr none ↦
          ext_get_or false new other (h.capacity ∙ sym k.capacity)
          (λ i within. of earliest h k (let n : size_of_set old ≡ 0 = omega arith in n) i)
    ]
  where
    both : {P : Type 0} (i : ℕ) → HoldsPattern new i ↔ P → HoldsPattern other i ↔ P
        → slice_index_or new i false ≡ slice_index_or other i false
    both i one two = same_test _ _ (λ t. two.1 (one.0 t)) (λ t. one.1 (two.0 t))

    of : (e : Bool) → IsOverlapResult nfa x LeftmostFirst e old new → IsOverlapResult nfa x LeftmostFirst e old other
        → size_of_set old ≡ 0 → (i : ℕ) → slice_index_or new i false ≡ slice_index_or other i false
    of false one two empty i = both i (set-firsts nfa x old new empty one i) (set-firsts nfa x old other empty two i)
    of true one two empty i = both i (set-earliest nfa x old new empty one i) (set-earliest nfa x old other empty two i)

-- with room for each pattern a permitted match is one that counts
module _ (nfa : Automaton) (x : Search) (valid : IsAutomaton nfa) (capacity : ℕ)
    (room : length nfa.patterns ≤ capacity) where
  has-room : (v : Pair) → IsPermitted nfa x v → IsInsertable nfa x capacity v
  has-room v h = grind (arith, some-pattern, node-pattern)

permitted : (nfa : Automaton) (x : Search) (capacity : ℕ) (v : Pair) → IsInsertable nfa x capacity v
    → IsPermitted nfa x v
permitted nfa x capacity v h = h.permitted

pub first-room : IsOfAllPaths IsFirstPath
first-room nfa x capacity path valid room = grind (arith, permitted, has-room, first-along)

pub earliest-room : IsOfAllPaths IsEarliestPath
earliest-room nfa x capacity path valid room = grind (arith, permitted, has-room, earliest-along)
