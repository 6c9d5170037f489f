-- Laws of spans: what an answer depends on, which is the bytes of the span and the assertions that hold there, and not
-- its place; and the span that a leftmost first answer has.
use Rattle.std.specs.Prelude.{◌≡◌, ℕ, ◌+◌, ◌-◌, ◌<◌, ◌≤◌, ◌⊎◌, Bool, false, List, map, All, length, take, drop, Option, None, Some, option_map, slice_get, ⊤}
pub use Rattle.thompson_nfa.specs.Looks.{byte_before}
use Rattle.thompson_nfa.specs.declared.look.Look as looks
use Rattle.nfa_paths.specs.Common.{Found, HalfFound, Search, MatchKind, Automaton, Node, look_holds, is_utf8_empty, Look, StartLF, EndLF, WordUnicode, WordUnicodeNegate, WordStartUnicode, WordEndUnicode, WordStartHalfUnicode, WordEndHalfUnicode, Anchored, Pair, EndsWith, HeadIs, PathTo, edges, starts, IsAnswer, IsMatch, IsScanAnswer, IsSearchAnswer, No, Yes}
use Rattle.nfa_engines.specs.Laws.{Tells, MatchesSomething}

-- each slot that is set, this many positions to the right
abbrev pub moved_slots : ℕ → List (Option ℕ) → List (Option ℕ)
moved_slots k slots = map (option_map (λ at. at + k)) slots

-- the match, this many positions to the right
abbrev pub moved_match : ℕ → Found → Found
moved_match k m = record m { start = m.start + k; end = m.end + k }

-- the match, if there is one, this many positions to the right
abbrev pub moved_found : ℕ → Option Found → Option Found
moved_found k found = option_map (moved_match k) found

-- the half match, if there is one, this many positions to the right
abbrev pub moved_half : ℕ → Option HalfFound → Option HalfFound
moved_half k half = option_map (λ (h : HalfFound). record h { offset = h.offset + k }) half

-- if the state is an assertion, this is true of it
abbrev pub IfLook : (looks.Look → Type 0) → Node → Type 0
IfLook P (Look look next) = P look
IfLook P _ = ⊤

-- this is true of each assertion of the NFA
abbrev pub EachLook : (looks.Look → Type 0) → Automaton → Type 0
EachLook P nfa = All (IfLook P) nfa.states

-- no state of the NFA asserts anything
abbrev pub HasNoLook : Automaton → Type 0
HasNoLook nfa = EachLook (λ look. ⊥) nfa

-- the second search has the span of the first, this many positions to the right, and the same anchoring
pub record IsSpanMoved (k : ℕ) (x y : Search) : Type 0 where
  pub start : y.start ≡ x.start + k
  pub end : y.end ≡ x.end + k
  pub anchored : y.anchored ≡ x.anchored

-- the bytes of the first search in its span are those of the second, this many positions to the right
abbrev pub AreBytesMoved : ℕ → Search → Search → Type 0
AreBytesMoved k x y =
    (i : ℕ) → x.start ≤ i → i < x.end → slice_get y.haystack (i + k) ≡ slice_get x.haystack i

-- two searches with the same span, the same bytes in it, and the same anchoring
pub record IsSameSpan (x y : Search) : Type 0 where
  pub start : y.start ≡ x.start
  pub end : y.end ≡ x.end
  pub anchored : y.anchored ≡ x.anchored
  pub bytes : (i : ℕ) → x.start ≤ i → i < x.end → slice_get y.haystack i ≡ slice_get x.haystack i

-- the search of the span, cut out of its haystack
abbrev pub cut_out : Search → Search
cut_out x = record x {
  haystack = take (x.end - x.start) (drop x.start x.haystack);
  start = 0;
  end = x.end - x.start;
}

-- The assertion holds at a position of the first span, its end included, exactly if it holds this many positions to the
-- right in the second haystack.
abbrev pub LookHoldsAlike : ℕ → Search → Search → looks.Look → Type 0
LookHoldsAlike k x y look =
    (at : ℕ) → x.start ≤ at → at ≤ x.end → look_holds look y.haystack (at + k) ≡ look_holds look x.haystack at

-- Each assertion of the NFA holds alike in both spans. If the NFA has no assertion, this is true.
abbrev pub HoldAlike : Automaton → ℕ → Search → Search → Type 0
HoldAlike nfa k x y = EachLook (LookHoldsAlike k x y) nfa

-- the NFA has no assertion, so all of them hold alike in any two spans
abbrev pub NoneToHold : Automaton → ℕ → Search → Search → Type 0
NoneToHold nfa k x y = HasNoLook nfa

-- An NFA reads only the bytes of the span and whether its assertions hold there. So, if these are `Alike` in two spans,
-- and no match has to end on a boundary, for each kind:
module _ (Alike : Automaton → ℕ → Search → Search → Type 0) where
  -- if the span and its bytes are those of another search, moved, then so is its answer;
  abbrev pub Moves : {A : Type 0} → (ℕ → A → A) → Tells A → Type 0
  Moves {A} moved Is =
      (nfa : Automaton) (k : ℕ) (x y : Search) (kind : MatchKind) (earliest : Bool) (a : A)
      → Alike nfa k x y → is_utf8_empty nfa ≡ false → IsSpanMoved k x y → AreBytesMoved k x y
      → Is nfa kind earliest x a → Is nfa kind earliest y (moved k a)

  -- two searches with the same span and the same bytes in it answer the same, whatever is around the span;
  abbrev pub ReadsTheSpan : {A : Type 0} → Tells A → Type 0
  ReadsTheSpan {A} Is =
      (nfa : Automaton) (x y : Search) (kind : MatchKind) (earliest : Bool) (a : A)
      → Alike nfa 0 x y → is_utf8_empty nfa ≡ false → IsSameSpan x y
      → Is nfa kind earliest x a → Is nfa kind earliest y a

  -- and what a search of the text that is cut out answers, that of the span in its haystack answers, moved by the
  -- start of the span.
  abbrev pub CutOutMoves : {A : Type 0} → (ℕ → A → A) → Tells A → Type 0
  CutOutMoves {A} moved Is =
      (nfa : Automaton) (x : Search) (kind : MatchKind) (earliest : Bool) (a : A)
      → Alike nfa x.start (cut_out x) x → is_utf8_empty nfa ≡ false → x.start ≤ x.end
      → Is nfa kind earliest (cut_out x) a → Is nfa kind earliest x (moved x.start a)

-- the assertion reads no more than the byte on each side of a position: it is not one of a Unicode word
abbrev pub ReadsBytes : looks.Look → Type 0
ReadsBytes WordUnicode = ⊥
ReadsBytes WordUnicodeNegate = ⊥
ReadsBytes WordStartUnicode = ⊥
ReadsBytes WordEndUnicode = ⊥
ReadsBytes WordStartHalfUnicode = ⊥
ReadsBytes WordEndHalfUnicode = ⊥
ReadsBytes _ = ⊤

-- the assertion is that a line starts or ends, and only a line feed ends a line
abbrev pub IsOfLines : looks.Look → Type 0
IsOfLines StartLF = ⊤
IsOfLines EndLF = ⊤
IsOfLines _ = ⊥

-- both haystacks have the same byte before the span, or none, and the same byte after it, or none
pub record AreSidesSame (x y : Search) : Type 0 where
  pub before : byte_before y.haystack y.start ≡ byte_before x.haystack x.start
  pub after : slice_get y.haystack y.end ≡ slice_get x.haystack x.end

-- In two spans with the same bytes, and the same bytes next to them, all assertions hold alike if none reads more than
-- the byte on each side.
abbrev pub SameSidesHoldAlike : Type 0
SameSidesHoldAlike =
    (nfa : Automaton) (k : ℕ) (x y : Search)
    → EachLook ReadsBytes nfa → x.end ≤ length x.haystack → y.end ≤ length y.haystack
    → IsSpanMoved k x y → AreBytesMoved k x y → AreSidesSame x y → HoldAlike nfa k x y

-- there is no such byte, or it is a line feed
abbrev pub IsLineEdge : Option ℕ → Type 0
IsLineEdge byte = (byte ≡ None) ⊎ (byte ≡ Some 10)

-- the span is of whole lines: what is next to it on each side is a line feed, or nothing
pub record IsOfWholeLines (x : Search) : Type 0 where
  pub before : IsLineEdge (byte_before x.haystack x.start)
  pub after : IsLineEdge (slice_get x.haystack x.end)
  pub within : x.end ≤ length x.haystack

-- In two spans of whole lines with the same bytes, all assertions hold alike if each says where a line starts or ends.
abbrev pub LinesHoldAlike : Type 0
LinesHoldAlike =
    (nfa : Automaton) (k : ℕ) (x y : Search)
    → EachLook IsOfLines nfa → IsOfWholeLines x → IsOfWholeLines y → IsSpanMoved k x y → AreBytesMoved k x y
    → HoldAlike nfa k x y

-- The same of whole lines in their text, and cut out of it.
abbrev pub CutOutLinesHoldAlike : Type 0
CutOutLinesHoldAlike =
    (nfa : Automaton) (x : Search)
    → EachLook IsOfLines nfa → IsOfWholeLines x → x.start ≤ x.end → HoldAlike nfa x.start (cut_out x) x

-- an accepting path starts at s and ends at e, and none that ends at e starts before s
pub record IsLeastStart (nfa : Automaton) (x : Search) (s e : ℕ) : Type 0 where
  pub matches : MatchesSomething nfa x
  pub start_is : matches.path.start.1 ≡ s
  pub end_is : matches.end.1 ≡ e
  pub least : (m : Pair) (q : List Pair) (w : PathTo (edges nfa x) (starts nfa x) m q) → IsMatch nfa m → m.1 ≡ e
      → s ≤ w.start.1

-- If a path is the answer of a scan, no accepting path with its end starts before it.
abbrev pub StartIsLeast : MatchKind → Bool → Type 0
StartIsLeast kind earliest =
    (nfa : Automaton) (x : Search) (p : List Pair) (v m : Pair)
    → IsScanAnswer nfa x kind earliest (Some p) → HeadIs v p → EndsWith m p → IsLeastStart nfa x v.1 m.1

-- and, whatever its end, no accepting path does
abbrev pub StartIsLeastOfAll : MatchKind → Bool → Type 0
StartIsLeastOfAll kind earliest =
    (nfa : Automaton) (x : Search) (p : List Pair) (v m : Pair) (q : List Pair)
    → IsScanAnswer nfa x kind earliest (Some p) → HeadIs v p
    → (w : PathTo (edges nfa x) (starts nfa x) m q) → IsMatch nfa m → v.1 ≤ w.start.1

-- the search with this span and anchoring, over the same haystack
abbrev pub cut_to : Search → ℕ → ℕ → Anchored → Search
cut_to x s e anchored = record x { start = s; end = e; anchored = anchored }

-- a search may be cut with its own anchoring, and an unanchored one also with that of an anchored search
pub data MayCut : Anchored → Anchored → Type 0 where
  same : {anchored : Anchored} → MayCut anchored anchored
  tied : MayCut No Yes

-- A path that answers a search also answers the search whose span is cut at the end of the path.
abbrev pub EndMayBeCut : MatchKind → Bool → Type 0
EndMayBeCut kind earliest =
    (nfa : Automaton) (x : Search) (p : List Pair) (m : Pair)
    → IsScanAnswer nfa x kind earliest (Some p) → EndsWith m p
    → IsScanAnswer nfa (cut_to x x.start m.1 x.anchored) kind earliest (Some p)

-- and the one whose span is cut at both ends
abbrev pub SpanMayBeCut : MatchKind → Bool → Type 0
SpanMayBeCut kind earliest =
    (nfa : Automaton) (x : Search) (anchored : Anchored) (p : List Pair) (v m : Pair) → MayCut x.anchored anchored
    → IsScanAnswer nfa x kind earliest (Some p) → HeadIs v p → EndsWith m p
    → IsScanAnswer nfa (cut_to x v.1 m.1 anchored) kind earliest (Some p)

-- The same for a search, after any number of restarts. The cut search needs none.
abbrev pub SearchMayBeCut : MatchKind → Bool → Type 0
SearchMayBeCut kind earliest =
    (nfa : Automaton) (x : Search) (anchored : Anchored) (restarts : ℕ) (p : List Pair) (v m : Pair)
    → MayCut x.anchored anchored → IsSearchAnswer nfa kind earliest x restarts (Some p)
    → HeadIs v p → EndsWith m p
    → IsSearchAnswer nfa kind earliest (cut_to x v.1 m.1 anchored) 0 (Some p)

-- a span in which the search has this answer, too
pub record IsAnswerSpan (nfa : Automaton) (kind : MatchKind) (earliest : Bool) (x : Search) (anchored : Anchored)
    (pattern : ℕ) (slots : List (Option ℕ)) : Type 0 where
  pub restarts : ℕ
  pub path : List Pair
  pub first : Pair
  pub last : Pair
  pub is_path : IsSearchAnswer nfa kind earliest x restarts (Some path)
  pub starts_with : HeadIs first path
  pub ends_with : EndsWith last path
  pub answers : IsAnswer nfa kind earliest (cut_to x first.1 last.1 anchored) (Some pattern) slots

-- An answer with a pattern is also that of the search cut to the span of its path.
abbrev pub AnswersHaveASpan : MatchKind → Bool → Type 0
AnswersHaveASpan kind earliest =
    (nfa : Automaton) (x : Search) (anchored : Anchored) (pattern : ℕ) (slots : List (Option ℕ))
    → MayCut x.anchored anchored → IsAnswer nfa kind earliest x (Some pattern) slots
    → IsAnswerSpan nfa kind earliest x anchored pattern slots
