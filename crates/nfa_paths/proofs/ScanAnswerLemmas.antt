-- An NFA's pairs as what a scan goes over, and what a scan finds as the answer that its contract means.
use Rattle.nfa_paths.proofs.Common.{◌≡◌, ℕ, zero, suc, ◌+◌, ◌≤◌, ◌<◌, ◌⊎◌, Bool, true, false, List, [], ◌∷◌, map, length, replicate, arith, rules, Option, None, Some, option_and_then, option_map, option_to_list, option_map_or, cases_Bool, Search, MatchKind, Automaton, Node, Pair, In, NoPath, Task, Slots, Hit, ExploresTo, seeds, Scanning, IsFoundBy, NoneBefore, LastBefore, EndsBefore, first_match, last_match, Scanned, IsFrontier, rests, is_resting, space, pairs_from, is_match, IsMatch, capture, byte_at, edges_of, edges, start_count, starts, IsScanAnswer, last_of, slot_row, LeftmostFirst, Explore}
use Rattle.regex_search_core.specs.declared.search.MatchKind.TheVariants.{All}
use Rattle.nfa_paths.proofs.PathToLemmas.{found-end}
use Rattle.nfa_paths.proofs.StartLemmas.{pairs_from-ahead, starts-increase, IsMatch-edges, IsMatch-capture, resting-edges, epsilon-edges}
use Rattle.nfa_paths.proofs.AnswerLemmas.{apply-slot_row}
use Rattle.nfa_paths.proofs.CutLemmas.{first_match-cut}
use Rattle.nfa_paths.proofs.ScanLemmas.{EndsBefore-within, IsEarliestPath-found, IsEarliestLastPath-found, LastBefore-end}
use Rattle.nfa_paths.proofs.KindsLemmas.{IsFirstPath-found, found-along}

-- the edges

module _ (nfa : Automaton) (x : Search) where
  -- an edge over a byte leads to the next position, within the span
  byte_edge : (p : ℕ) (on : ℕ → Option ℕ) (y : Pair)
      → In y (option_to_list (option_and_then (λ b. option_map (λ next. (next, p + 1)) (on b)) (byte_at x p)))
      → (y.1 ≡ p + 1) × (p < x.end)
  byte_edge p on y = grind arith

  -- an edge over no byte stays at its position
  stays : (p : ℕ) (targets : List ℕ) (y : Pair) → In y (map (λ next. (next, p)) targets) → y.1 ≡ p
  stays p [] y i = absurd i
  stays p (t ∷ targets) y i = grind (arith, stays p targets y)

  -- an edge stays at its position, if the state does not rest, or leads to the next one within the span
  pub edges_of-next : (n : Node) (p : ℕ) (y : Pair) → In y (edges_of x n p)
      → ((rests n ≡ false) × (y.1 ≡ p)) ⊎ ((y.1 ≡ p + 1) × (p < x.end))
  edges_of-next n p y i =
      grind (arith, cases_Bool, byte_edge, resting-edges, stays, epsilon-edges)

  -- positions never fall along an edge
  pub edges-onward : (v y : Pair) → In y (edges nfa x v) → v.1 ≤ y.1
  edges-onward v y i = grind (arith, edges_of-next)

  -- they rise at a resting pair
  pub edges-rise : (v y : Pair) → is_resting nfa v ≡ true → In y (edges nfa x v) → v.1 < y.1
  edges-rise v y r i = grind (arith, edges_of-next)

  -- and stay within the span
  pub edges-within : (v y : Pair) → In y (edges nfa x v) → v.1 ≤ x.end → y.1 ≤ x.end
  edges-within v y i within = grind (arith, edges_of-next)

  -- a set of matches, all or some, as what a scan is for
  pub Scanned-matches : (wanted : Pair → Bool) → ((v : Pair) → wanted v ≡ true → is_match nfa v ≡ true)
      → Scanned (space nfa x) (is_resting nfa) wanted
  Scanned-matches wanted some =
      search (rules, IsMatch-capture, IsMatch-edges, edges-onward, edges-rise, starts-increase)

  -- the starts are at the span's start or after it
  pub starts-from : (s : Pair) → In s (starts nfa x) → x.start ≤ s.1
  starts-from s = grind (arith, pairs_from-ahead)

  -- and not after its end
  pub starts-within : (s : Pair) → In s (starts nfa x) → s.1 ≤ x.end
  starts-within s i =
      (grind (arith, of))
    where
      below : (state at count : ℕ) → In s (pairs_from state at count) → s.1 < at + count
      below state at zero i = absurd i
      below state at (suc count) i = grind (arith, below state (at + 1) count)

      of : x.start ≤ x.end → (o : Option ℕ) → In s
          (option_map_or (λ state. pairs_from state x.start (start_count nfa x)) o []) → s.1 ≤ x.end
      of = grind (arith, below)

  -- every path ends within the span
  pub EndsBefore-span : (wanted : Pair → Bool) → EndsBefore (space nfa x) wanted (x.end + 1)
  EndsBefore-span wanted = EndsBefore-within (edges nfa x) (starts nfa x) wanted x.end edges-within starts-within

-- the starts that wait

-- and so if slots are loaded after each start
pub Explore-among_seeds : (k : Pair) (slots : Slots) (es : List Pair) → In (Explore k) (seeds slots es) → In k es
unfolding seeds
Explore-among_seeds k slots [] i = absurd i
Explore-among_seeds k slots (e ∷ es) i = grind (arith, Explore-among_seeds k slots es)

-- the starts that wait are after the position
pub seeds-later : (slots : Slots) (state at count : ℕ) (k : Pair)
    → In (Explore k) (seeds slots (pairs_from state (at + 1) count)) → at < k.1
seeds-later slots state at count k i = grind (arith, Explore-among_seeds, pairs_from-ahead)

-- the answers

-- the path of a scan's answer, of whichever kind, which ends with v, with its slots, no longer than there were turns
pub record FindsAnswer (nfa : Automaton) (x : Search) (kind : MatchKind) (earliest : Bool) (count turns : ℕ) (v : Pair)
    (row : Slots) : Type 0 where
  pub path : List Pair
  pub answers : IsScanAnswer nfa x kind earliest (Some path)
  pub ends : last_of path ≡ Some v
  pub row_is : row ≡ slot_row nfa count (Some path)
  pub short : length path ≤ turns

module _ (nfa : Automaton) (x : Search) (kind : MatchKind) (earliest : Bool) where
  -- nothing was found: the scan has no answer
  pub IsFoundBy-none : (turns : ℕ) (slots : Slots)
      → IsFoundBy (capture nfa) slots (IsScanAnswer nfa x kind earliest) turns None
      → IsScanAnswer nfa x kind earliest None
  IsFoundBy-none turns slots h = grind (arith, found-end)

  -- a pair was found: it ends the scan's answer
  pub IsFoundBy-some : (count turns : ℕ) (v : Pair) (row : Slots)
      → IsFoundBy (capture nfa) (replicate count None) (IsScanAnswer nfa x kind earliest) turns (Some (v, row))
      → FindsAnswer nfa x kind earliest count turns v row
  IsFoundBy-some count turns v row h = let f = found-along h in search (rules, apply-slot_row)

-- each kind from what the scan knows of its positions

module _ (nfa : Automaton) (x : Search) where
  -- if no path to a match is left to end, no kind of scan has an answer
  pub scan_answer-none : (kind : MatchKind) (earliest : Bool) {e : ℕ} → NoneBefore (space nfa x) (is_match nfa) e
      → EndsBefore (space nfa x) (is_match nfa) e → IsScanAnswer nfa x kind earliest None
  scan_answer-none kind earliest {e} none ends =
      of kind earliest (λ m p w t. none m p w (record { wanted = t; before = ends m p w t }))
    where
      of : (kind : MatchKind) (earliest : Bool) → NoPath (edges nfa x) (starts nfa x) (IsMatch nfa)
          → IsScanAnswer nfa x kind earliest None
      of = grind arith

module _ (nfa : Automaton) (x : Search) (slots : Slots) where
  -- the search for any match finds the first path
  pub scan_first-found : (turns : ℕ) (g : Hit)
      → ExploresTo (space nfa x) (is_match nfa) turns None [] (map Explore (starts nfa x)) slots g
      → IsFoundBy (capture nfa) slots (IsScanAnswer nfa x LeftmostFirst false) turns g
  scan_first-found turns g answer =
      IsFirstPath-found (space nfa x) (is_resting nfa) (is_match nfa) slots
      (Scanned-matches nfa x (is_match nfa) (λ v m. m)) turns g answer

  -- the first front with a match has the earliest path, also if the pairs after it were not followed
  pub scan_earliest-cut : {e : ℕ} {Seen : Pair → Type 0} {spent : ℕ} {front : List (Pair × Slots)} {work : List Task}
      {current : Slots} {a : Pair × Slots} → NoneBefore (space nfa x) (is_match nfa) e
      → Scanning (space nfa x) (is_match nfa) slots e Seen spent front work current
      → ((b : Pair × Slots) → In b front → (is_resting nfa b.0 ≡ true) × (b.0.1 ≡ e))
      → first_match (is_match nfa) front ≡ Some a
      → IsFoundBy (capture nfa) slots (IsScanAnswer nfa x LeftmostFirst true) spent (Some a)
  scan_earliest-cut none s rests is =
      let shape = Scanned-matches nfa x (is_match nfa) (λ v m. m) in
      IsEarliestPath-found (space nfa x) (is_resting nfa) (is_match nfa) slots shape none
      (first_match-cut (space nfa x) (is_resting nfa) (is_match nfa) shape s rests is)

  -- and the earliest last path, if all were followed
  pub scan_earliest_last-found : {turns e : ℕ} {front : List (Pair × Slots)} → NoneBefore (space nfa x) (is_match nfa) e
      → IsFrontier (space nfa x) (is_resting nfa) (is_match nfa) slots turns front e
      → (a : Pair × Slots) → last_match (is_match nfa) None front ≡ Some a
      → IsFoundBy (capture nfa) slots (IsScanAnswer nfa x All true) turns (Some a)
  scan_earliest_last-found none f a is =
      IsEarliestLastPath-found (space nfa x) (is_resting nfa) (is_match nfa) slots
      (Scanned-matches nfa x (is_match nfa) (λ v m. m)) none f a is

  -- once every path has ended, what was found last is the last path's
  pub scan_all-found : {turns e : ℕ} {g : Hit} → LastBefore (space nfa x) (is_match nfa) slots e turns g
      → EndsBefore (space nfa x) (is_match nfa) e → IsFoundBy (capture nfa) slots (IsScanAnswer nfa x All false) turns g
  scan_all-found so_far ends =
      LastBefore-end (space nfa x) (is_resting nfa) (is_match nfa) slots
      (Scanned-matches nfa x (is_match nfa) (λ v m. m)) so_far ends

-- if the search for any match finds nothing, there is no accepting path
pub scan_none : (nfa : Automaton) (x : Search) (total : ℕ) (slots : Slots)
    → ExploresTo (space nfa x) (is_match nfa) total None [] (map Explore (starts nfa x)) slots None
    → IsScanAnswer nfa x LeftmostFirst false None
scan_none nfa x total slots answer =
    IsFoundBy-none nfa x LeftmostFirst false total slots (scan_first-found nfa x slots total None answer)

-- what it finds is the first accepting path's
pub scan_some : (nfa : Automaton) (x : Search) (count total : ℕ) (v : Pair) (row : Slots)
    → ExploresTo (space nfa x) (is_match nfa) total None [] (map Explore (starts nfa x)) (replicate count None)
    (Some (v, row))
    → FindsAnswer nfa x LeftmostFirst false count total v row
scan_some nfa x count total v row answer =
    grind (arith, IsFoundBy-some, scan_first-found)
