-- What a search for patterns finds, in the words of the matcher of `regex_hir`. It does so in bytes; in UTF-8 mode, in
-- which a match that splits a codepoint does not count; and in a `str`, in which no match starts inside one.
use Rattle.std.specs.Prelude.{◌≡◌, ℕ, zero, suc, ◌+◌, ◌-◌, ◌*◌, Bool, true, false, List, [], ◌∷◌, length, map, replicate, Option, Some, None, option_map, option_and_then, if◌then◌else◌, nat_le, nat_lt, slice_get, ◌==◌}
use Rattle.regex_hir.specs.Re.{Re, Trace, accept, attempt}
use Rattle.regex_hir.specs.Find.{Match, last_write}
use Rattle.regex_hir.specs.Text.{is_boundary, is_none_or, is_some_and}
use Rattle.nfa_paths.specs.Common.{explicit_slot}
use Rattle.nfa_search_base.specs.Common.{range_with_len, option_or, IsBoundary, Found, number_of, Search, Anchored, No, Yes, Pattern, MatchKind, LeftmostFirst, slot_count, Captured, Span, Automaton, Row}

-- a match: its pattern, its start, and its trace
pub record PatternHit : Type 0 where
  pub pattern : ℕ
  pub start : ℕ
  pub trace : Trace

-- the hit of this pattern at this start, if there is one
abbrev pub hit_of : ℕ → ℕ → Option Trace → Option PatternHit
hit_of pattern start trace = option_map (λ t. record { pattern = pattern; start = start; trace = t }) trace

-- The hit of the first pattern that matches at i. The patterns are numbered from k on.
abbrev pub pick : List ℕ → List Re → ℕ → ℕ → Option PatternHit
pick haystack [] k i = None
pick haystack (re ∷ res) k i = option_or (hit_of k i (attempt haystack re accept i)) (pick haystack res (k + 1) i)

-- the first hit at any of the n positions from i on
abbrev pub first_hit : (ℕ → Option PatternHit) → ℕ → ℕ → Option PatternHit
first_hit at zero i = None
first_hit at (suc n) i = option_or (at i) (first_hit at n (i + 1))

-- the hit of only this pattern at i; none for an unknown pattern
abbrev pub pick_one : List ℕ → List Re → ℕ → ℕ → Option PatternHit
pick_one haystack res k i = option_and_then (λ re. hit_of k i (attempt haystack re accept i)) (slice_get res k)

-- the hit in a mode: `free` without an anchor, `at` of all patterns at the start, `one` of a single pattern there
abbrev pub hit_in_mode : Option PatternHit → Option PatternHit → (ℕ → Option PatternHit) → Anchored → Option PatternHit
hit_in_mode free at one No = free
hit_in_mode free at one Yes = at
hit_in_mode free at one (Pattern pattern) = one (number_of pattern)

-- the hit of a search; none if its span starts after its end
abbrev pub hit_of_search : Search → Option PatternHit → Option PatternHit → (ℕ → Option PatternHit) → Option PatternHit
hit_of_search x free at one = if nat_lt x.end x.start then None else hit_in_mode free at one x.anchored

-- The hit that a search for the patterns has to find. `bound` says that each search is bound to its start.
unfoldable pub expected : List Re → Bool → Search → Option PatternHit
expected res bound x =
    hit_of_search x (first_hit (pick x.haystack res 0) (if bound then 1 else (x.end - x.start + 1)) x.start)
    (pick x.haystack res 0 x.start) (λ k. pick_one x.haystack res k x.start)

-- the hit ends on a boundary of the haystack: its end is not at a continuation byte
abbrev pub ends_on_boundary : List ℕ → PatternHit → Bool
ends_on_boundary haystack h = is_boundary haystack h.trace.end

-- the hit, if it ends on a boundary
abbrev pub on_boundary : List ℕ → Option PatternHit → Option PatternHit
on_boundary haystack h = if is_some_and h (ends_on_boundary haystack) then h else None

-- The hit at the first of the n positions from i on that has none, or one that ends on a boundary: after a hit that
-- splits a codepoint the search starts again, one byte further on.
abbrev pub restarted_hit : List ℕ → (ℕ → Option PatternHit) → ℕ → ℕ → Option PatternHit
restarted_hit haystack at zero i = None
restarted_hit haystack at (suc n) i =
    if is_none_or (at i) (ends_on_boundary haystack) then at i else restarted_hit haystack at n (i + 1)

-- The same in UTF-8 mode. That each scan is bound to its start does not anchor the search: it starts again after a hit
-- that splits a codepoint, and ends with none at the first start without a hit.
unfoldable pub expected_on_boundary : List Re → Bool → Search → Option PatternHit
expected_on_boundary res bound x =
    hit_of_search x
    (if bound then restarted_hit x.haystack (pick x.haystack res 0) (x.end - x.start + 1) x.start
    else first_hit (λ i. on_boundary x.haystack (pick x.haystack res 0 i)) (x.end - x.start + 1) x.start)
    (on_boundary x.haystack (pick x.haystack res 0 x.start))
    (λ k. on_boundary x.haystack (pick_one x.haystack res k x.start))

-- the hit at i, if i is a boundary of the haystack
abbrev pub at_boundary : List ℕ → (ℕ → Option PatternHit) → ℕ → Option PatternHit
at_boundary haystack at i = if is_boundary haystack i then at i else None

-- The same in a `str`: the hit starts on a boundary.
unfoldable pub expected_in_str : List Re → Bool → Search → Option PatternHit
expected_in_str res bound x =
    hit_of_search x
    (first_hit (at_boundary x.haystack (pick x.haystack res 0)) (if bound then 1 else (x.end - x.start + 1)) x.start)
    (at_boundary x.haystack (pick x.haystack res 0) x.start)
    (λ k. at_boundary x.haystack (pick_one x.haystack res k) x.start)

-- the hit of a search of an NFA
abbrev pub HitOf : Type 0
HitOf = List Re → Automaton → Search → Option PatternHit

-- the hit that a search of the NFA has to find: in bytes, in UTF-8 mode, and in a `str`
abbrev pub hit : HitOf
hit res nfa x = expected res (nfa.anchored == nfa.unanchored) x

abbrev pub boundary_hit : HitOf
boundary_hit res nfa x = expected_on_boundary res (nfa.anchored == nfa.unanchored) x

abbrev pub str_hit : HitOf
str_hit res nfa x = expected_in_str res (nfa.anchored == nfa.unanchored) x

-- The hit after one that ended at i. `hit_from` gives the first hit from a position on. An empty hit at i is skipped.
abbrev pub hit_after : (ℕ → Option PatternHit) → ℕ → Option PatternHit
hit_after hit_from i =
    if is_some_and (hit_from i) (λ h. h.trace.end == i) then hit_from (i + 1) else hit_from i

-- this hit, if there is one, and the hits after it, at most n in all
unfoldable pub hits_from : (ℕ → Option PatternHit) → ℕ → Option PatternHit → List PatternHit
hits_from hit_from zero h = []
hits_from hit_from (suc n) None = []
hits_from hit_from (suc n) (Some h) = h ∷ hits_from hit_from n (hit_after hit_from h.trace.end)

-- All hits of a search, from left to right. Their ends ascend, so there is at most one more than there are bytes.
abbrev pub all_of : HitOf → List Re → Automaton → Search → List PatternHit
all_of first res nfa x =
    hits_from (λ i. first res nfa (record x { start = i })) (length x.haystack + 1) (first res nfa x)

-- in bytes, in UTF-8 mode, and in a `str`
abbrev pub all_hits : List Re → Automaton → Search → List PatternHit
all_hits = all_of hit

abbrev pub all_boundary_hits : List Re → Automaton → Search → List PatternHit
all_boundary_hits = all_of boundary_hit

abbrev pub all_str_hits : List Re → Automaton → Search → List PatternHit
all_str_hits = all_of str_hit

-- the number of the pattern's slot among those of all: group n of a pattern has the slots 2n and 2n + 1
abbrev pub place_of : List (List (Option (List ℕ))) → ℕ → ℕ → ℕ
place_of groups pattern slot =
    if nat_lt slot 2 then (2 * pattern + slot) else (explicit_slot groups pattern + (slot - 2))

-- each slot and position that the hit writes, the bounds of the whole match first
abbrev pub writes_of : List (List (Option (List ℕ))) → PatternHit → List (ℕ × ℕ)
writes_of groups h =
    (2 * h.pattern, h.start) ∷ (2 * h.pattern + 1, h.trace.end)
    ∷ map (λ w. (place_of groups h.pattern w.0, w.1)) h.trace.writes

-- the first `count` slots of the hit: each has the position last written there
unfoldable pub slots_of : List (List (Option (List ℕ))) → ℕ → Option PatternHit → List (Option ℕ)
slots_of groups count None = replicate count None
slots_of groups count (Some h) = map (last_write (writes_of groups h)) (range_with_len 0 count)

-- the pattern and the slots are those of the hit
abbrev pub AreOfHit : List (List (Option (List ℕ))) → Option PatternHit → Option ℕ → List (Option ℕ) → Type 0
AreOfHit groups h pattern slots =
    (pattern ≡ option_map (λ (g : PatternHit). g.pattern) h) × (slots ≡ slots_of groups (length slots) h)

-- the pattern and the span of the hit
abbrev pub found_at : PatternHit → Found
found_at h = record { pattern = h.pattern; start = h.start; end = h.trace.end }

-- the same, if there is a hit
abbrev pub found_of_hit : Option PatternHit → Option Found
found_of_hit h = option_map found_at h

-- a match of `regex_hir` as the hit of this pattern
abbrev pub hit_by : ℕ → Match → PatternHit
hit_by pattern m = record { pattern = pattern; start = m.start; trace = m.trace }

-- a match of `regex_hir` as a match of pattern 0
abbrev pub found_by : Match → Found
found_by m = found_at (hit_by 0 m)

-- the pattern and all slots of a hit
abbrev pub row_of_hit : Automaton → PatternHit → Row
row_of_hit nfa h =
    record { pattern = Some h.pattern; slots = slots_of nfa.groups (slot_count nfa.groups) (Some h) }

-- the span from one position to another, if both are set and in order
abbrev pub span_between : Option ℕ → Option ℕ → Option Span
span_between start end =
    option_and_then (λ s. option_and_then
    (λ e. if nat_le s e then Some (record { start = s; end = e }) else None) end) start

-- the captures of a hit, with all slots of the NFA
abbrev pub captures_of : Automaton → PatternHit → Captured
captures_of nfa h = record { groups = nfa.groups; pattern = Some h.pattern; slots = (row_of_hit nfa h).slots }

-- the span that a match of `regex_hir` last wrote for the group
abbrev pub written_span : ℕ → Match → Option Span
written_span group m =
    span_between (last_write m.trace.writes (2 * group)) (last_write m.trace.writes (2 * group + 1))

-- an unanchored search that the NFA binds to its start starts on a boundary
abbrev pub StartsOnBoundary : Automaton → Search → Type 0
StartsOnBoundary nfa x = (nfa.anchored == nfa.unanchored) ≡ true → x.anchored ≡ No → IsBoundary x.haystack x.start

-- a leftmost first search that goes on to the end of the haystack, without `earliest`
pub record IsLeftmostToTheEnd (kind : MatchKind) (earliest : Bool) (x : Search) : Type 0 where
  pub leftmost : kind ≡ LeftmostFirst
  pub latest : earliest ≡ false
  pub whole : x.end ≡ length x.haystack
