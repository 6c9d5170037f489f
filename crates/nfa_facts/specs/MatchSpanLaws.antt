-- What a match says about the path that its search answers, if each way of the NFA writes its bounds.
use Rattle.std.specs.Prelude.{◌≡◌, ◌↔◌, ℕ, ◌<◌, ◌≤◌, Bool, List, false, true, Option, None, Some, IfSome, option_map, ⊤}
use Rattle.nfa_paths.specs.Common.{Found, HalfFound, Search, is_anchored, MatchKind, Automaton, IsAutomaton, Pair, EndsWith, PathTo, NoPath, edges, starts, path_pattern, raised, is_utf8_empty, IsMatch, IsHalfAnswer, IsSearchAnswer, IsFindAnswer}
pub use Rattle.nfa_engines.specs.Laws.{MatchesNothing}
use Rattle.nfa_engines.specs.Items.{end_of}
use Rattle.nfa_engines.specs.Laws.{PathsWriteTheirEnds, StartsBeforePaths}
use Rattle.nfa_paths.specs.StatePaths.{RecordsMatchSpans}

-- the match is that of this accepting path: its pattern, its start and its end
pub record IsMatchOfPath (nfa : Automaton) (x : Search) (p : List Pair) (m : Found) : Type 0 where
  pub end : Pair
  pub path : PathTo (edges nfa x) (starts nfa x) end p
  pub accepts : IsMatch nfa end
  pub pattern_is : path_pattern nfa p ≡ Some m.pattern
  pub start_is : m.start ≡ path.start.1
  pub end_is : m.end ≡ end.1

-- the match is that of the path, or there is no match and no path
abbrev pub AreOneMatch : Automaton → Search → Option (List Pair) → Option Found → Type 0
AreOneMatch nfa x None None = ⊤
AreOneMatch nfa x (Some p) (Some m) = IsMatchOfPath nfa x p m
AreOneMatch nfa x None (Some m) = ⊥
AreOneMatch nfa x (Some p) None = ⊥

-- the match starts at the position and has no byte, or starts elsewhere, or there is no match
abbrev pub HasNoByteAt : ℕ → Option Found → Type 0
HasNoByteAt at found = IfSome found (λ m. m.start ≡ at → m.end ≤ at)

-- each accepting path of the search ends after the start of the span, so an anchored search has no empty match
abbrev pub PathsReadBytes : Automaton → Search → Type 0
PathsReadBytes nfa x =
    (end : Pair) (p : List Pair) → PathTo (edges nfa x) (starts nfa x) end p → IsMatch nfa end → x.start < end.1

module _ (nfa : Automaton) (kind : MatchKind) (earliest : Bool) where
  -- Of all accepting paths, the one that the anchored search answers reads at least one byte: it ends after the start
  -- of the span.
  pub record AnswersBytes (x : Search) : Type 0 where
    pub along : List Pair
    pub answers : IsSearchAnswer nfa kind earliest x 0 (Some along)
    pub end : Pair
    pub ends : EndsWith end along
    pub some_bytes : x.start < end.1

-- each accepting path of each search writes its start and its end
abbrev pub EverySearchIsRecorded : Type 0
EverySearchIsRecorded = (nfa : Automaton) (x : Search) → RecordsMatchSpans nfa → PathsWriteTheirEnds nfa x

-- a search of any kind answers none exactly if there is no accepting path
abbrev pub NoneIsNoPathThere : Type 0
NoneIsNoPathThere =
    (nfa : Automaton) (kind : MatchKind) (earliest : Bool) (x : Search) (found : Option Found) → IsAutomaton nfa
    → is_utf8_empty nfa ≡ false → RecordsMatchSpans nfa → IsFindAnswer nfa kind earliest x found
    → (found ≡ None) ↔ NoPath (edges nfa x) (starts nfa x) (IsMatch nfa)

-- if the search answers none, there is no accepting path
abbrev pub NoneIsNothing : Type 0
NoneIsNothing =
    (nfa : Automaton) (kind : MatchKind) (earliest : Bool) (x : Search) → IsAutomaton nfa → is_utf8_empty nfa ≡ false
    → RecordsMatchSpans nfa → IsFindAnswer nfa kind earliest x None → MatchesNothing nfa x

-- and no accepting path starts before the match
abbrev pub NoneStartsBeforeThere : MatchKind → Bool → Type 0
NoneStartsBeforeThere kind earliest =
    (nfa : Automaton) (x : Search) (found : Option Found) → IsAutomaton nfa → is_utf8_empty nfa ≡ false
    → RecordsMatchSpans nfa → IsFindAnswer nfa kind earliest x found → IfSome found (StartsBeforePaths nfa x)

-- the match of an anchored search of any kind starts at the start of its span
abbrev pub AnchoredStartsTheSpan : Type 0
AnchoredStartsTheSpan =
    (nfa : Automaton) (kind : MatchKind) (earliest : Bool) (x : Search) (found : Option Found) → IsAutomaton nfa
    → is_anchored x.anchored ≡ true → RecordsMatchSpans nfa → IsFindAnswer nfa kind earliest x found
    → IfSome found (λ m. m.start ≡ x.start)

-- the match of a search of any kind is that of the path which it answers, and there is none if there is no path
abbrev pub MatchesAreOfPaths : Type 0
MatchesAreOfPaths =
    (nfa : Automaton) (kind : MatchKind) (earliest : Bool) (x : Search) (restarts : ℕ) (path : Option (List Pair))
    (found : Option Found) → IsAutomaton nfa → RecordsMatchSpans nfa
    → IsSearchAnswer nfa kind earliest x restarts path
    → IsFindAnswer nfa kind earliest x found → AreOneMatch nfa (raised x restarts) path found

-- the half match of a search of any kind is the end of the search's match
abbrev pub HalfMatchesAreEnds : Type 0
HalfMatchesAreEnds =
    (nfa : Automaton) (kind : MatchKind) (earliest : Bool) (x : Search) (half : Option HalfFound) (found : Option Found)
    → IsAutomaton nfa → RecordsMatchSpans nfa → IsHalfAnswer nfa kind earliest x half
    → IsFindAnswer nfa kind earliest x found → half ≡ option_map end_of found

-- an anchored search answers a path with a byte if its match has one
abbrev pub BytesAreAnswered : Type 0
BytesAreAnswered =
    (nfa : Automaton) (kind : MatchKind) (earliest : Bool) (x : Search) (m : Found) → IsAutomaton nfa
    → is_anchored x.anchored ≡ true → RecordsMatchSpans nfa → IsFindAnswer nfa kind earliest x (Some m)
    → x.start < m.end → AnswersBytes nfa kind earliest x

-- And no such path if its match has no byte, or if there is no match. If a match may end anywhere and each accepting
-- path reads a byte, there is then no accepting path.
abbrev pub NoBytesAreAnswered : Type 0
NoBytesAreAnswered =
    (nfa : Automaton) (kind : MatchKind) (earliest : Bool) (x : Search) (found : Option Found) → IsAutomaton nfa
    → is_anchored x.anchored ≡ true → RecordsMatchSpans nfa → IsFindAnswer nfa kind earliest x found
    → HasNoByteAt x.start found → (¬ AnswersBytes nfa kind earliest x)
    × (is_utf8_empty nfa ≡ false → PathsReadBytes nfa x → MatchesNothing nfa x)
