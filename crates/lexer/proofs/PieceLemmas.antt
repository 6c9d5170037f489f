-- The hits of a lexer are its tokens, and the pieces of a text are these and the longest stretches at which none
-- starts.
use Rattle.std.proofs.Common.{◌≡◌, ◌∙◌, ◌⊎◌, ℕ, zero, suc, Bool, not, ◌+◌, ◌-◌, ◌≤◌, ◌<◌, List, [], ◌∷◌, ◌++◌, All, length, drop, arith, refl, sym, ap, subst, add-one, inl, inr, append_assoc, Option, None, Some, IfSome, IsSome, is_none, is_some, option_and_then, option_map, slice_get, slice_range, take_while, unwrap_or, if◌then◌else◌, false, ◌==◌}
use Rattle.std.proofs.lemmas.Bool.{cases_Bool, cases_lt, le-ltb, lt-ltb}
use Rattle.std.proofs.lemmas.List.{drop_all, length-map}
use Rattle.std.proofs.lemmas.List.Elements.{All-cons}
use Rattle.std.proofs.lemmas.List.Folds.{drop_split}
use Rattle.std.proofs.lemmas.List.Sums.{take_while-cons}
use Rattle.std.proofs.lemmas.Slice.Zip.{AllZip-long}
use Rattle.nfa_compiler.specs.Common.{IsMeant, IsTreeOf, Parsed, PatternHit, Matches, Re, Yes, AreMeant, accept, attempt, expected, found_at, found_of_hit, hit, hit_of, meaning, number_of, pick, pick_one, byte_syntax, res_of}
use Rattle.nfa_compiler.proofs.EachLemmas.{LiesFrom, of-pick, pick_one-each, numbered}
use Rattle.regex_hir.proofs.MatchesLemmas.{Matches-IsSpan}
use Rattle.regex_search_core.specs.Found.{Found}
use Rattle.regex_search_core.specs.declared.search.Anchored.{Anchored}
use Rattle.regex_search_core.specs.declared.search.Anchored.TheVariants.{Pattern}
use Rattle.regex_search_core.specs.declared.primitives.PatternID.{PatternID}
use Rattle.lexer.specs.Lexed.{IsLongestOf, IsPiece, TextPiece, end_after, hit_there, is_token, joined, lexed, longer, longest_of, longest_there, own_hit, own_token, piece_of, piece_there, pieces_from, recovered, search_at, search_in, stretch_end, token_there, with_bytes}
use Rattle.lexer.specs.declared.lexer.Prefer.{Prefer}
use Rattle.lexer.specs.declared.lexer.Prefer.TheVariants.{First, Longest}
use Rattle.nfa_engines.specs.Paths.{IsFindAnswer}
use Rattle.nfa_compiler.specs.Laws.{InBytes, TextsAreMatched}
use Rattle.nfa_meta.specs.ChoiceState.{kind_in}
use Rattle.nfa_meta.specs.Built.{IsRegexOf}
use Rattle.nfa_meta.specs.RegexState.{RegexState}

-- a call found something, or nothing
pub is-found : {A B : Type 0} (f : A → B) (o : Option A) (p : Option B) (b : Bool) → option_map f o ≡ p
    → is_some o ≡ b → is_none p ≡ not b
is-found f o p b same is = grind arith

-- no token starts here and the stretch goes on, or one does
pub stretch-from : (token_at : ℕ → Option Found) (size at : ℕ) → at < size
    → stretch_end token_at (size - at) at
    ≡ (if is_none (token_at at) then stretch_end token_at (size - (at + 1)) (at + 1) else at)
unfolding stretch_end
stretch-from token_at size at less =
    let more : size - at ≡ suc (size - (at + 1)) = omega (arith, less) in
    rw more refl

pub stretch-end : (token_at : ℕ → Option Found) (size : ℕ) → size ≡ stretch_end token_at (size - size) size
unfolding stretch_end
stretch-end token_at size = let none : size - size ≡ zero = omega arith in rw none refl

-- the hit of a match that has a byte at least
record HasHit (o : Option PatternHit) (m : Found) : Type 0 where
  hit : PatternHit
  is : o ≡ Some hit
  found : m ≡ found_at hit
  bytes : hit.start < hit.trace.end

has-hit : (o : Option PatternHit) (m : Found) → with_bytes (found_of_hit o) ≡ Some m → HasHit o m
has-hit None m is = absurd (cc)
has-hit (Some h) m is = elim (cases_lt h.start h.trace.end) [
  | inl less ↦ record {
    hit = h;
    is = refl;
    found = ap (λ (o : Option Found). unwrap_or o m) (sym (rw (lt-ltb h.start h.trace.end less) at is));
    bytes = less;
  }
  | inr more ↦ absurd (let no : None ≡ Some m = rw (le-ltb h.start h.trace.end more) at is in cc)
]

-- the hit of a rule lies in the text
span-lies : (text : List ℕ) (at : ℕ) → at ≤ length text → (re : Re) → Unit {0} → (h : PatternHit) → h.start ≡ at
    → Matches text re at h.trace.end → LiesFrom text at at h
span-lies text at within re any h start m = grind (arith, Matches-IsSpan text re at h.trace.end m)

own-within : (res : List Re) (text : List ℕ) (k at : ℕ) (h : PatternHit) → at ≤ length text
    → pick_one text res k at ≡ Some h → LiesFrom text at at h
own-within res text k at h within =
    pick_one-each text at (λ re. Unit {0}) (LiesFrom text at at) (span-lies text at within) res (λ j d less. tt) k k h

-- the longest of tokens is one of them

longer-one : (a b : Option Found) → (longer a b ≡ a) ⊎ (longer a b ≡ b)
longer-one None b = inr refl
longer-one (Some m) None = inl refl
longer-one (Some m) (Some other) = elim (cases_lt m.end other.end) [
  | inl less ↦ inr (rw (lt-ltb m.end other.end less) refl)
  | inr more ↦ inl (rw (le-ltb m.end other.end more) refl)
]

longest-among : (own : ℕ → Option Found) (n : ℕ) (m : Found) → longest_of own n ≡ Some m
    → (k : ℕ) × (k < n) × (own k ≡ Some m)
unfolding longest_of
longest-among own zero m is = absurd (cc)
longest-among own (suc n) m is = elim (longer-one (longest_of own n) (own n)) [
  | inl first ↦ let among = longest-among own n m (sym first ∙ is) in (among.0, omega (arith, among.1), among.2)
  | inr next ↦ (n, omega arith, sym next ∙ is)
]

module _ (prefer : Prefer) (res : List Re) (text : List ℕ) where
  -- where a token is
  record LiesAt (at : ℕ) (m : Found) : Type 0 where
    start : m.start ≡ at
    after : at < m.end
    inside : m.end ≤ length text

  hit-lies : (at : ℕ) (h : PatternHit) (m : Found) → LiesFrom text at at h → m ≡ found_at h → h.start < h.trace.end
      → LiesAt at m
  hit-lies at h m lies is bytes = rw is (record {
    start = omega (arith, lies.after, lies.before);
    after = omega (arith, lies.before, bytes);
    inside = lies.inside;
  })

  first-lies : (at : ℕ) → at ≤ length text → (m : Found) → with_bytes (hit_there res text at) ≡ Some m → LiesAt at m
  first-lies at within m is =
      let h = has-hit (pick text res 0 at) m is in
      hit-lies at h.hit m (of-pick text res 0 at h.hit within h.is) h.found h.bytes

  own-lies : (at k : ℕ) → at ≤ length text → (m : Found) → own_token res text at k ≡ Some m → LiesAt at m
  own-lies at k within m is =
      let h = has-hit (pick_one text res k at) m is in
      hit-lies at h.hit m (own-within res text k at h.hit within h.is) h.found h.bytes

  token-lies-by : (by : Prefer) (at : ℕ) → at ≤ length text → (m : Found) → token_there by res text at ≡ Some m
      → LiesAt at m
  token-lies-by First at within m is = first-lies at within m is
  token-lies-by Longest at within m is =
      let own = longest-among (own_token res text at) (length res) m is in
      own-lies at own.0 within m own.2

  token-lies : (at : ℕ) → at ≤ length text → (m : Found) → token_there prefer res text at ≡ Some m → LiesAt at m
  token-lies at within m is = token-lies-by prefer at within m is

  record EndsStretch (n at end : ℕ) : Type 0 where
    from : at ≤ end
    within : end ≤ n + at
    no_token : (k : ℕ) → at ≤ k → k < end → token_there prefer res text k ≡ None
    ends : end < n + at → IsSome (token_there prefer res text end)

  stretch-more : (n at end : ℕ) → token_there prefer res text at ≡ None → EndsStretch n (at + 1) end
      → EndsStretch (suc n) at end
  stretch-more n at end none rest = record {
    from = omega (arith, rest.from);
    within = omega (arith, rest.within);
    no_token = λ k low high. grind (arith, rest.no_token k);
    ends = λ less. rest.ends (omega (arith, less));
  }

  stretch-stops : (n at : ℕ) → (at < n + at → IsSome (token_there prefer res text at)) → EndsStretch n at at
  stretch-stops n at ends = record {
    from = omega arith;
    within = omega arith;
    no_token = λ k low high. absurd (omega (arith, low, high));
    ends = ends;
  }

  stretch-ends : (n at : ℕ) → EndsStretch n at (stretch_end (token_there prefer res text) n at)
  unfolding stretch_end
  stretch-ends zero at = stretch-stops zero at (λ less. absurd (omega (arith, less)))
  stretch-ends (suc n) at = of (token_there prefer res text at) refl (stretch-ends n (at + 1))
    where
      of : (o : Option Found) → token_there prefer res text at ≡ o
          → EndsStretch n (at + 1) (stretch_end (token_there prefer res text) n (at + 1))
          → EndsStretch (suc n) at (if is_none o then stretch_end (token_there prefer res text) n (at + 1) else at)
      of None is rest = stretch-more n at _ is rest
      of (Some m) is rest = stretch-stops (suc n) at (λ less. rw is refl)

  abbrev next : ℕ → ℕ
  next at = stretch_end (token_there prefer res text) (length text - (at + 1)) (at + 1)

  -- where a piece is
  pub record PieceLiesAt (at : ℕ) (p : TextPiece) : Type 0 where
    pub start : p.start ≡ at
    pub after : at < p.end
    pub inside : p.end ≤ length text
    pub is : IsPiece prefer res text p

  pub piece-lies : (at : ℕ) → at < length text → PieceLiesAt at (piece_there prefer res text at)
  piece-lies at less = of (token_there prefer res text at) refl (stretch-ends (length text - (at + 1)) (at + 1))
    where
      of : (o : Option Found) → token_there prefer res text at ≡ o
          → EndsStretch (length text - (at + 1)) (at + 1) (next at) → PieceLiesAt at (piece_of o at (next at))
      of None is rest =
          let all = stretch-more (length text - (at + 1)) at (next at) is rest in
          record {
            start = refl;
            after = omega (arith, rest.from);
            inside = omega (arith, rest.within, less);
            is = record {
              some_bytes = omega (arith, rest.from);
              no_token = all.no_token;
              ends = λ before. rest.ends (omega (arith, before, less));
            };
          }
      of (Some m) is rest =
          let lies = token-lies at (omega (arith, less)) m is in
          record {
            start = lies.start;
            after = lies.after;
            inside = lies.inside;
            is = ap (token_there prefer res text) lies.start ∙ is;
          }

  abbrev pieces_at : ℕ → ℕ → List TextPiece
  pieces_at n at = pieces_from (piece_there prefer res text) (length text) n at

  -- the token there is the piece
  pub token-piece : (at : ℕ) (m : Found) → Some m ≡ token_there prefer res text at
      → piece_of (Some m) at (next at) ≡ piece_there prefer res text at
  token-piece at m is = ap (λ o. piece_of o at (next at)) is

  pub pieces-none : (n : ℕ) → pieces_at n (length text) ≡ []
  unfolding pieces_from
  pieces-none zero = refl
  pieces-none (suc n) = rw (le-ltb (length text) (length text) (omega arith)) refl

  -- a piece is there, and the others are from its end on
  pub pieces-more : (n at : ℕ) → at < length text → length text ≤ n + at
      → (left : ℕ) × (length text ≤ left + (piece_there prefer res text at).end)
      × (pieces_at n at ≡ piece_there prefer res text at ∷ pieces_at left (piece_there prefer res text at).end)
  unfolding pieces_from
  pieces-more zero at less room = absurd (omega (arith, less, room))
  pieces-more (suc n) at less room =
      let after = (piece-lies at less).after in
      (n, omega (arith, after, room), rw (lt-ltb at (length text) less) refl)

  -- The texts of pieces are joined.

  piece-then : (at : ℕ) → at < length text → (tail : List ℕ) → tail ≡ drop (piece_there prefer res text at).end text
      → slice_range text (piece_there prefer res text at).start (piece_there prefer res text at).end ++ tail
      ≡ drop at text
  piece-then at less tail is =
      let lies = piece-lies at less in
      rw (lies.start, is) (sym (drop_split text at (piece_there prefer res text at).end (omega (arith, lies.after))))

  joined-from : (n at : ℕ) → at ≤ length text → length text ≤ n + at → joined text (pieces_at n at) ≡ drop at text
  unfolding pieces_from
  joined-from zero at within room = sym (drop_all at text (omega (arith, room)))
  joined-from (suc n) at within room = elim (cases_lt at (length text)) [
    | inl less ↦
        let lies = piece-lies at less in
        rw (lt-ltb at (length text) less) (piece-then at less _
        (joined-from n (piece_there prefer res text at).end lies.inside (omega (arith, lies.after, room))))
    | inr more ↦ rw (le-ltb at (length text) more) (sym (drop_all at text more))
  ]

  pub pieces-joined : joined text (recovered prefer res text) ≡ text
  pieces-joined = joined-from (length text) 0 (omega arith) (omega arith)

  tokens-from : (n at : ℕ) → at ≤ length text
      → joined text (take_while is_token (pieces_at n at))
      ++ drop (end_after at (take_while is_token (pieces_at n at))) text
      ≡ drop at text
  unfolding pieces_from
  tokens-from zero at within = refl
  tokens-from (suc n) at within = elim (cases_lt at (length text)) [
    | inl less ↦
        let piece = piece_there prefer res text at in
        let rest = pieces_at n piece.end in
        rw (lt-ltb at (length text) less, take_while-cons is_token piece rest) (elim (cases_Bool (is_token piece)) [
          | inl token ↦
              rw (token, append_assoc) (piece-then at less _ (tokens-from n piece.end (piece-lies at less).inside))
          | inr stretch ↦ rw stretch refl
        ])
    | inr more ↦ rw (le-ltb at (length text) more) refl
  ]

  pub tokens-joined : joined text (lexed prefer res text) ++ drop (end_after 0 (lexed prefer res text)) text ≡ text
  tokens-joined = tokens-from (length text) 0 (omega arith)

  all-from : (n at : ℕ) → All (IsPiece prefer res text) (pieces_at n at)
  unfolding pieces_from
  all-from zero at = λ k d inside. absurd (omega (arith, inside))
  all-from (suc n) at = elim (cases_lt at (length text)) [
    | inl less ↦
        rw (lt-ltb at (length text) less)
        (All-cons (IsPiece prefer res text) (piece_there prefer res text at)
        (pieces_at n (piece_there prefer res text at).end)
        (piece-lies at less).is (all-from n (piece_there prefer res text at).end))
    | inr more ↦ rw (le-ltb at (length text) more) (λ k d inside. absurd (omega (arith, inside)))
  ]

  pub all-pieces : All (IsPiece prefer res text) (recovered prefer res text)
  all-pieces = all-from (length text) 0

-- the longest token is that of the first rule with the longest one

if-some : (o : Option Found) (P Q : Found → Type 0) → ((m : Found) → P m → Q m) → IfSome o P → IfSome o Q
if-some None P Q of h = tt
if-some (Some m) P Q of h = of m h

module _ (own : ℕ → Option Found) (numbered : (k : ℕ) (m : Found) → own k ≡ Some m → m.pattern ≡ k) where
  -- what holds of the first n tokens and of the next one holds of all these
  one-more : (P : ℕ → Type 0) (n : ℕ) → ((k : ℕ) → k < n → P k) → P n → (k : ℕ) → k < suc n → P k
  one-more P n all next k less = elim (cases_lt k n) [
    | inl before ↦ all k before
    | inr from ↦ let same : n ≡ k = omega (arith, less, from) in subst P same next
  ]

  next-longest : (n : ℕ) (m : Found) → own n ≡ Some m
      → ((k : ℕ) → k < n → IfSome (own k) (λ other. other.end < m.end)) → IsLongestOf own (suc n) (Some m)
  next-longest n m is before =
      let at : m.pattern ≡ n = numbered n m is in (
        omega (arith, at),
        subst (λ k. own k ≡ Some m) (sym at) is,
        one-more (λ k. IfSome (own k) (λ other. other.end ≤ m.end)) n
            (λ k less. if-some (own k) _ _ (λ other h. omega (arith, h)) (before k less)) (rw is (omega arith)),
        λ k less. before k (omega (arith, at, less)),
      )

  longest-more : (n : ℕ) (best : Option Found) → IsLongestOf own n best → (next : Option Found) → own n ≡ next
      → IsLongestOf own (suc n) (longer best next)
  longest-more n None none None is = one-more (λ k. own k ≡ None) n none is
  longest-more n None none (Some m) is = next-longest n m is (λ k less. rw (none k less) tt)
  longest-more n (Some b) best None is = (
    omega (arith, best.0),
    best.1,
    one-more (λ k. IfSome (own k) (λ other. other.end ≤ b.end)) n best.2 (rw is tt),
    best.3,
  )
  longest-more n (Some b) best (Some m) is = elim (cases_lt b.end m.end) [
    | inl less ↦
        rw (lt-ltb b.end m.end less)
        (next-longest n m is (λ k before. if-some (own k) _ _ (λ other h. omega (arith, h, less)) (best.2 k before)))
    | inr more ↦
        rw (le-ltb b.end m.end more) (
          omega (arith, best.0),
          best.1,
          one-more (λ k. IfSome (own k) (λ other. other.end ≤ b.end)) n best.2 (rw is more),
          best.3,
        )
  ]

  longest-is : (n : ℕ) → IsLongestOf own n (longest_of own n)
  unfolding longest_of
  longest-is zero = λ k less. absurd (omega (arith, less))
  longest-is (suc n) = longest-more n (longest_of own n) (longest-is n) (own n) refl

pub longest-none : (own : ℕ → Option Found) → None ≡ longest_of own 0
unfolding longest_of
longest-none own = refl

pub longest-next : (own : ℕ → Option Found) (n : ℕ) → longer (longest_of own n) (own n) ≡ longest_of own (n + 1)
unfolding longest_of
longest-next own n = rw (add-one n) refl

module _ (res : List Re) (text : List ℕ) where
  -- the token of a rule has its number
  numbered-one : (k i : ℕ) (o : Option Re) (h : PatternHit)
      → option_and_then (λ re. hit_of k i (attempt text re accept i)) o ≡ Some h → h.pattern ≡ k
  numbered-one k i None h e = absurd (cc)
  numbered-one k i (Some re) h e = numbered k i (attempt text re accept i) h e

  pub longest-token-is : (at : ℕ) → IsLongestOf (own_token res text at) (length res) (longest_there res text at)
  longest-token-is at = longest-is (own_token res text at)
      (λ k m is. let h = has-hit (pick_one text res k at) m is in
      ap (λ (f : Found). f.pattern) h.found ∙ numbered-one k at (slice_get res k) h.hit h.is)
      (length res)

  -- what a search that is bound to this place has to find
  picked : (at : ℕ) → at ≤ length text → (bound : Bool) → expected res bound (search_at text at) ≡ pick text res 0 at
  unfolding expected
  picked at within bound = rw (le-ltb (length text) at within) refl

  picked-one : (at : ℕ) → at ≤ length text → (bound : Bool) (pattern : PatternID)
      → expected res bound (search_in (Pattern pattern) text at) ≡ pick_one text res (number_of pattern) at
  unfolding expected
  picked-one at within bound pattern = rw (le-ltb (length text) at within) refl

  -- a search by the law finds the hit that it has to
  module _ (law : TextsAreMatched InBytes hit) (patterns : List (List ℕ)) (regex : RegexState)
      (of : IsRegexOf patterns regex) (meant : AreMeant byte_syntax patterns res) (bytes : All (λ b. b < 256) text)
      (at : ℕ) (within : at ≤ length text) (found : Option Found) where
    abbrev bound : Bool
    bound = regex.choice.nfa.anchored == regex.choice.nfa.unanchored

    hit-in : (mode : Anchored)
        → IsFindAnswer regex.choice.nfa (kind_in regex.choice) false (search_in mode text at) found
        → found ≡ found_of_hit (expected res bound (search_in mode text at))
    hit-in mode answer =
        law byte_syntax patterns res regex.choice.nfa (kind_in regex.choice) false (search_in mode text at) found
        of.compiled meant of.anywhere
        (record { leftmost = rw of.leftmost refl; latest = refl; whole = refl }) bytes answer

    -- that of all rules
    pub hit-is : IsFindAnswer regex.choice.nfa (kind_in regex.choice) false (search_at text at) found
        → found ≡ hit_there res text at
    hit-is answer = hit-in Yes answer ∙ ap found_of_hit (picked at within bound)

    -- that of one
    pub own-hit-is : (pattern : PatternID)
        → IsFindAnswer regex.choice.nfa (kind_in regex.choice) false (search_in (Pattern pattern) text at) found
        → found ≡ own_hit res text at (number_of pattern)
    own-hit-is pattern answer =
        hit-in (Pattern pattern) answer ∙ ap found_of_hit (picked-one at within bound pattern)

-- a rule's number is that of a pattern
number-small : (patterns : List (List ℕ)) (regex : RegexState) → IsRegexOf patterns regex → (k : ℕ)
    → k < length patterns → k ≤ 2147483646
number-small patterns regex of k less =
    let read = of.compiled in
    let known : k < length (res_of read.trees) =
    omega (
      arith,
      less,
      AllZip-long (IsTreeOf byte_syntax) patterns read.trees read.read,
      length-map read.trees (λ (p : Parsed). meaning p.hir),
    ) in
    let own = read.made.each k known in
    omega (arith, own.pattern_is, own.site.pattern.small)

-- the regex has a pattern for each rule, and each has a number
pub record CountsPatterns (patterns : List (List ℕ)) (regex : RegexState) : Type 0 where
  pub same : length regex.choice.nfa.patterns ≡ length patterns
  pub small : length patterns ≤ 2147483647

pub pattern-count : (patterns : List (List ℕ)) (regex : RegexState) → IsRegexOf patterns regex
    → CountsPatterns patterns regex
pattern-count patterns regex of =
    let read = of.compiled in
    record {
      same = omega (
        arith,
        read.made.patterns,
        AllZip-long (IsTreeOf byte_syntax) patterns read.trees read.read,
        length-map read.trees (λ (p : Parsed). meaning p.hir),
      );
      small = elim (cases_lt 2147483647 (length patterns)) [
        | inl more ↦
            let last = number-small patterns regex of (length patterns - 1) (omega (arith, more)) in
            absurd (omega (arith, last, more))
        | inr less ↦ less
      ];
    }

-- rules that have a meaning have as many
pub meant-count : (patterns : List (List ℕ)) (res : List Re) → AreMeant byte_syntax patterns res
    → length patterns ≡ length res
meant-count patterns res meant = sym (AllZip-long (IsMeant byte_syntax) patterns res meant)
