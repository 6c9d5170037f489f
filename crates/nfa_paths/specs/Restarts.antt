-- The results of a scan and of a search by either engine: the match, the slots, and the work.
use Rattle.std.specs.Prelude.{◌≡◌, ℕ, zero, suc, ◌+◌, ◌*◌, ◌<◌, ◌≤◌, Bool, true, false, List, [], ◌∷◌, ◌++◌, Option, None, Some, length, replicate, option_map, option_and_then}
use Rattle.std.specs.Option.{option_map_or}
use Rattle.regex_search_core.specs.Found.{half_found_of}
use Rattle.regex_search_core.specs.Search.{Search, is_anchored}
use Rattle.regex_search_core.specs.declared.search.HalfMatch.{HalfMatch}
use Rattle.regex_search_core.specs.declared.search.MatchKind.{MatchKind}
use Rattle.thompson_nfa.specs.Automaton.{Automaton}
use Rattle.nfa_paths.specs.Graphs.{Pair}
use Rattle.nfa_paths.specs.Exploring.{Slots}
use Rattle.nfa_paths.specs.Paths.{span_len, total_degree, raised, node_at, pattern_of, last_of, path_half, slot_row, is_utf8_empty, IsScanAnswer, IsSearchAnswer, SplitsCharacter, IsWithinScans, max_scans}

-- the sum of the weights of the bits that are set, which bounds how often a search tries to mark a pair
unfoldable pub marked_sum : List ℕ → List Bool → ℕ
marked_sum [] marks = 0
marked_sum (w ∷ ws) [] = 0
marked_sum (w ∷ ws) (true ∷ marks) = w + marked_sum ws marks
marked_sum (w ∷ ws) (false ∷ marks) = marked_sum ws marks

-- the list repeated `count` times
unfoldable pub repeated : ℕ → List ℕ → List ℕ
repeated zero ws = []
repeated (suc count) ws = ws ++ repeated count ws

-- the maximum number of turns of one scan
abbrev pub max_scan_turns : Automaton → Search → ℕ
max_scan_turns nfa x = (1 + total_degree nfa) * (span_len x + 1)

-- no slot is set
abbrev pub AreUnset : Slots → Type 0
AreUnset slots = slots ≡ replicate (length slots) None

module _ (nfa : Automaton) (kind : MatchKind) (earliest : Bool) (x : Search) where
  -- the scan's answer is a path with this match and these slots
  pub record GivesPath (half : HalfMatch) (slots : Slots) (turns : ℕ) : Type 0 where
    pub path : List Pair
    pub state : ℕ
    pub answers : IsScanAnswer nfa x kind earliest (Some path)
    pub matches : pattern_of (node_at nfa state) ≡ Some (half_found_of half).pattern
    pub ends : last_of path ≡ Some (state, (half_found_of half).offset)
    pub row : slots ≡ slot_row nfa (length slots) (Some path)
    pub short : length path ≤ turns

  -- the result of a scan in `turns` turns
  abbrev pub ScanGives : Option HalfMatch → Slots → ℕ → Type 0
  ScanGives None slots turns = IsScanAnswer nfa x kind earliest None × AreUnset slots
  ScanGives (Some half) slots turns = GivesPath half slots turns

  -- the result of a search in `scans` scans and `turns` turns
  pub record SearchGives (half : Option HalfMatch) (slots : Slots) (scans turns : ℕ) : Type 0 where
    pub restarts : ℕ
    pub path : Option (List Pair)
    pub answers : IsSearchAnswer nfa kind earliest x restarts path
    pub half_is : option_map half_found_of half ≡ option_and_then (path_half nfa) path
    pub slots_are : slots ≡ slot_row nfa (length slots) path
    pub scans_are : scans ≡ restarts + 1
    pub turns_reach : option_map_or length path 0 ≤ turns

  -- n scans and m turns of a search are within their bounds, and an answer takes no fewer scans
  pub record IsBounded (n m : ℕ) : Type 0 where
    pub within : IsWithinScans nfa kind earliest x n
    pub scans : n ≤ max_scans nfa x
    pub turns : m ≤ n * max_scan_turns nfa x

  -- A search in progress. It scans y next, after `scans` scans, each with an answer that ends inside a codepoint.
  pub record Restarts (y : Search) (scans turns : ℕ) : Type 0 where
    pub is : y ≡ raised x scans
    pub split : (i : ℕ) → i < scans → SplitsCharacter nfa kind earliest (raised x i)
    pub free : 0 < scans → (is_utf8_empty nfa ≡ true) × (is_anchored x.anchored ≡ false)
    pub turned : turns ≤ scans * max_scan_turns nfa x
