-- A way whose states are marked until one writes the slot writes it, so each match has it.
use Rattle.nfa_paths.proofs.Common.{◌≡◌, ◌<◌, ◌+◌, All, Err, IfOk, IsTrue, Ok, Result, ◌/◌, ℕ, List, sum_by, slot_count, [], ◌∷◌, length, get_or, arith, inl, inr, is_some, true, false, Bool, Option, None, Some, option_and_then, slot_row, Search, Automaton, IsSearchAnswer, IsAnswer, IsMatch, MatchKind, Node, Linked, EndsWith, Pair, PathTo, edges, starts, node_at, pattern_of, path_pattern, raised, slot_among}
use Rattle.std.proofs.lemmas.List.FromFn.{get_or-map-range_with_len}
use Rattle.nfa_paths.specs.StatePaths.{IsStart, IsStatePath, open_edges, position_after, targets}
use Rattle.nfa_paths.proofs.AnswerLemmas.{scan_answer-leads}
use Rattle.nfa_paths.proofs.FirstStartLemmas.{start-of}
use Rattle.nfa_paths.proofs.OneScanLemmas.{last-scan}
use Rattle.nfa_paths.proofs.MemberLemmas.{All-In, In-mapped}
use Rattle.nfa_paths.proofs.OpenPathLemmas.{linked-open}
use Rattle.nfa_meta.specs.AlwaysSet.{AlwaysWrites, AreUnwritten, IsMarked, LeadsToMarked, SetsGroups}

module _ (nfa : Automaton) (slot : ℕ) (marks : List Bool) (unwritten : AreUnwritten nfa slot marks) where
  -- from a marked state on, a way to a Match writes the slot
  marked-writes : (rest : List Pair) (v end : Pair) → IsMarked marks v.0 → Linked (open_edges nfa) (v ∷ rest)
      → EndsWith end (v ∷ rest) → IsMatch nfa end → is_some (slot_among nfa (v ∷ rest) slot) ≡ true
  marked-writes [] v end marked linked ends matches = grind (arith, unwritten.leads v.0 marked)
  marked-writes (y ∷ rest) v end marked linked ends matches =
      elim (unwritten.leads v.0 marked) [
        | inl writes ↦ grind arith
        | inr on ↦
            let of =
            In-mapped (λ s. (s, position_after (node_at nfa v.0) v.1)) y (targets (node_at nfa v.0)) linked.0 in
            let later = marked-writes rest y end (grind (arith, on.1 of.0 of.1)) linked.1 ends matches in
            grind (arith, later)
      ]

  -- so each way does
  pub always_written : AlwaysWrites nfa slot
  always_written end [] way matches = absurd way.head
  always_written end (v ∷ rest) way matches =
      marked-writes rest v end (rw way.head (unwritten.starts way.start.0 way.starts)) way.linked way.ends matches

-- so marks that pass both tests show it
pub shows_written : (nfa : Automaton) (slot : ℕ) (marks : List Bool) {E : Type 0} (result : Result Bool E)
    → ((s : ℕ) → IsStart nfa s → IsMarked marks s)
    → IfOk result (λ all. IsTrue all → (s : ℕ) → IsMarked marks s → LeadsToMarked slot marks (node_at nfa s))
    → IfOk result (λ shows. IsTrue shows → AlwaysWrites nfa slot)
shows_written nfa slot marks (Ok all) begin leads =
    λ yes. always_written nfa slot marks (record { starts = begin; leads = leads yes })
shows_written nfa slot marks (Err e) begin leads = tt

-- a state that is no Match leads to marked states if all that follows it is marked
pub leads_by_all : (slot : ℕ) (marks : List Bool) (node : Node) → is_some (pattern_of node) ≡ false
    → All (IsMarked marks) (targets node) → LeadsToMarked slot marks node
leads_by_all slot marks node none all = inr (grind arith, λ s i. All-In (IsMarked marks) (targets node) all s i)

-- an accepting path of a search is a way
path-way : (nfa : Automaton) (x : Search) (end : Pair) (p : List Pair) → PathTo (edges nfa x) (starts nfa x) end p
    → IsStatePath nfa end p
path-way nfa x end p path = grind (arith, start-of, linked-open)

module _ (nfa : Automaton) (kind : MatchKind) (earliest : Bool) (x : Search) (slot : ℕ)
    (always : AlwaysWrites nfa slot) where
  -- the path that a search answers writes the slot
  answer-writes : (restarts : ℕ) (p : List Pair) → IsSearchAnswer nfa kind earliest x restarts (Some p)
      → is_some (slot_among nfa p slot) ≡ true
  answer-writes restarts p h =
      let y = raised x restarts in
      let to = scan_answer-leads nfa y kind earliest p (last-scan nfa kind earliest x restarts p h).scan in
      always to.end p (path-way nfa y to.end p to.path) to.matches

  row-has : (count : ℕ) (restarts : ℕ) (path : Option (List Pair)) → IsSearchAnswer nfa kind earliest x restarts path
      → (pattern : ℕ) → Some pattern ≡ option_and_then (path_pattern nfa) path → slot < count
      → is_some (get_or (slot_row nfa count path) slot None) ≡ true
  unfolding slot_row
  row-has count restarts None h pattern is within = cc
  row-has count restarts (Some p) h pattern is within =
      rw (get_or-map-range_with_len (slot_among nfa p) 0 count slot slot None within (omega arith))
      (answer-writes restarts p h)

  -- so an answer with a match has an offset in the slot, if it has the slot
  pub answers-set : (pattern : ℕ) (slots : List (Option ℕ)) → IsAnswer nfa kind earliest x (Some pattern) slots
      → slot < length slots → is_some (get_or slots slot None) ≡ true
  answers-set pattern slots answer within =
      let has = row-has (length slots) answer.restarts answer.path answer.answers pattern answer.pattern_is within in
      rw answer.slots_are has

-- so if each slot of the groups is always written, each match sets all groups
pub sets_groups : (nfa : Automaton) (count : ℕ) → length nfa.patterns ≡ 1 → count ≡ slot_count nfa.groups
    → ((k : ℕ) → k < count → AlwaysWrites nfa k) → SetsGroups nfa (count / 2)
sets_groups nfa count one slots always =
    let half : count / 2 ≡ length nfa.groups + sum_by length nfa.groups = omega (arith, slots) in
    record {
      one = one;
      count = half;
      each = λ kind earliest x pattern row answer slot within less.
          answers-set nfa kind earliest x slot (always slot (omega (arith, less, half, slots))) pattern row answer
          within;
    }
