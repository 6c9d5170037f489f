-- The tokens of a text, and its pieces, in the words of the reference matcher: tokens, and the stretches at which none
-- starts.
use Rattle.std.specs.Prelude.{find, ℕ, zero, suc, ◌+◌, ◌-◌, ◌≡◌, ◌≤◌, ◌<◌, Bool, not, List, [], ◌∷◌, ◌++◌, All, drop, flat_map, length, Option, Some, None, IfSome, IsSome, MatchOption, is_none, is_some, option_map, take_while, if◌then◌else◌, nat_lt, slice_range, false}
use Rattle.nfa_compiler.specs.Common.{Found, number_of, Search, Yes, Span, Re, found_of_hit, pick, pick_one}
use Rattle.regex_search_core.specs.declared.search.Anchored.{Anchored}
use Rattle.lexer.specs.declared.lexer.Prefer.{Prefer}
use Rattle.lexer.specs.declared.lexer.Prefer.TheVariants.{First, Longest}
use Rattle.lexer.specs.declared.lexer.Piece.{Piece}
use Rattle.lexer.specs.declared.lexer.Piece.TheVariants as piece
use Rattle.lexer.specs.declared.lexer.Token.{Token}

-- the match, if it has a byte at least
abbrev pub with_bytes : Option Found → Option Found
with_bytes None = None
with_bytes (Some m) = if nat_lt m.start m.end then Some m else None

-- the one of the two that is preferred: by the first rule, or by the longest
abbrev pub token_by : Prefer → Option Found → Option Found → Option Found
token_by First first longest = first
token_by Longest first longest = longest

-- A piece of a text: a token of the pattern of this number, or a stretch of no pattern.
pub record TextPiece : Type 0 where
  pub pattern : Option ℕ
  pub start : ℕ
  pub end : ℕ

-- whether the piece is a token
abbrev pub is_token : TextPiece → Bool
is_token piece = is_some piece.pattern

-- The first place from this one on at which a token starts, or the place that is n bytes on if there is none before it:
-- `token_at` gives the token that starts at a place.
unfoldable pub stretch_end : (ℕ → Option Found) → ℕ → ℕ → ℕ
stretch_end token_at zero at = at
stretch_end token_at (suc n) at = if is_none (token_at at) then stretch_end token_at n (at + 1) else at

-- this token or, if there is none, the stretch from this place to that one
abbrev pub piece_of : Option Found → ℕ → ℕ → TextPiece
piece_of None at end = record { pattern = None; start = at; end = end }
piece_of (Some m) at end = record { pattern = Some m.pattern; start = m.start; end = m.end }

-- The pieces from this place to the end of a text of this size, at most n: `piece_at` gives the piece at a place.
unfoldable pub pieces_from : (ℕ → TextPiece) → ℕ → ℕ → ℕ → List TextPiece
pieces_from piece_at size zero at = []
pieces_from piece_at size (suc n) at =
    if nat_lt at size then (piece_at at ∷ pieces_from piece_at size n (piece_at at).end) else []

-- where the last of these pieces ends; at this place, if there is none
abbrev pub end_after : ℕ → List TextPiece → ℕ
end_after at [] = at
end_after at (piece ∷ pieces) = end_after piece.end pieces

-- the longer of two matches that start at one place; the first, if it is as long
abbrev pub longer : Option Found → Option Found → Option Found
longer None other = other
longer (Some m) None = Some m
longer (Some m) (Some other) = if nat_lt m.end other.end then Some other else Some m

-- The longest of the tokens of the first n rules, and of those that are as long the first: `own` gives the token of a
-- rule.
unfoldable pub longest_of : (ℕ → Option Found) → ℕ → Option Found
longest_of own zero = None
longest_of own (suc n) = longer (longest_of own n) (own n)

-- The rules mean `res`.
module _ (res : List Re) (text : List ℕ) where
  -- The hit at this place: of the first rule that matches there, and as long as that rule prefers. Its match may have
  -- no byte, also if a later rule matches some.
  abbrev pub hit_there : ℕ → Option Found
  hit_there at = found_of_hit (pick text res 0 at)

  -- the match of the rule of this number at this place, as long as that rule prefers
  abbrev pub own_hit : ℕ → ℕ → Option Found
  own_hit at number = found_of_hit (pick_one text res number at)

  -- the same, if it has a byte at least
  abbrev pub own_token : ℕ → ℕ → Option Found
  own_token at number = with_bytes (own_hit at number)

  -- the longest of the tokens of all rules at this place, and of those that are as long the first
  abbrev pub longest_there : ℕ → Option Found
  longest_there at = longest_of (own_token at) (length res)

-- what the longest of the tokens of the first n rules is: that of a rule; no rule has a longer one, and no rule before
-- it has one that is as long. If there is none, no rule has one.
abbrev pub IsLongestOf : (ℕ → Option Found) → ℕ → Option Found → Type 0
IsLongestOf own n None = (k : ℕ) → k < n → own k ≡ None
IsLongestOf own n (Some m) = (m.pattern < n) × (own m.pattern ≡ Some m)
    × ((k : ℕ) → k < n → IfSome (own k) (λ other. other.end ≤ m.end))
    × ((k : ℕ) → k < m.pattern → IfSome (own k) (λ other. other.end < m.end))

-- the longest token at a place is
abbrev pub TokensAreLongest : Type 0
TokensAreLongest = (res : List Re) (text : List ℕ) (at : ℕ)
    → IsLongestOf (own_token res text at) (length res) (longest_there res text at)

-- The rules mean `res`, and the token is that of the rule that is preferred.
module _ (prefer : Prefer) (res : List Re) (text : List ℕ) where
  -- the token at this place: the hit of the first rule that matches, if it has a byte at least, or the longest token
  abbrev pub token_there : ℕ → Option Found
  token_there at = token_by prefer (with_bytes (hit_there res text at)) (longest_there res text at)

  -- The piece at this place: the token there or, if there is none, the stretch up to the next place at which a token
  -- starts, or to the end of the text.
  abbrev pub piece_there : ℕ → TextPiece
  piece_there at =
      piece_of (token_there at) at (stretch_end token_there (length text - (at + 1)) (at + 1))

  -- The pieces of the text. Each starts where the one before it ends.
  abbrev pub recovered : List TextPiece
  recovered = pieces_from piece_there (length text) (length text) 0

  -- The tokens from the start of the text on, each where the one before it ends, up to where no token starts: the
  -- pieces before the first stretch.
  abbrev pub lexed : List TextPiece
  lexed = take_while is_token recovered

  -- the place where no token starts, that of the first stretch; none if the tokens are the whole text
  abbrev pub stuck_in : Option ℕ
  stuck_in = option_map (λ piece. piece.start) (find (λ piece. not (is_token piece)) recovered)

  -- The stretch ends where a token starts, or at the end of the text, and no token starts in it.
  pub record IsLongest (start end : ℕ) : Type 0 where
    pub some_bytes : start < end
    pub no_token : (at : ℕ) → start ≤ at → at < end → token_there at ≡ None
    pub ends : end < length text → IsSome (token_there end)

  -- what a piece is: of a pattern, the token that starts there; of none, a longest stretch
  abbrev pub IsPiece : TextPiece → Type 0
  IsPiece piece = MatchOption piece.pattern (IsLongest piece.start piece.end)
      (λ n. token_there piece.start ≡ Some (record { pattern = n; start = piece.start; end = piece.end }))

-- the texts of these pieces, one after the other
abbrev pub joined : List ℕ → List TextPiece → List ℕ
joined text pieces = flat_map (λ piece. slice_range text piece.start piece.end) pieces

-- the texts of the tokens, and what is after the last one, are the text
abbrev pub TokensAreJoined : Type 0
TokensAreJoined =
    (prefer : Prefer) (res : List Re) (text : List ℕ)
    → joined text (lexed prefer res text) ++ drop (end_after 0 (lexed prefer res text)) text ≡ text

-- the texts of the pieces are the text
abbrev pub PiecesAreTheText : Type 0
PiecesAreTheText =
    (prefer : Prefer) (res : List Re) (text : List ℕ) → joined text (recovered prefer res text) ≡ text

-- each piece is a token, or a longest stretch
abbrev pub PiecesAreLongest : Type 0
PiecesAreLongest =
    (prefer : Prefer) (res : List Re) (text : List ℕ) → All (IsPiece prefer res text) (recovered prefer res text)

-- the search of a text from an offset on, bound to it in this mode
abbrev pub search_in : Anchored → List ℕ → ℕ → Search
search_in mode text at = record { haystack = text; start = at; end = length text; anchored = mode; earliest = false }

-- the same for all rules
abbrev pub search_at : List ℕ → ℕ → Search
search_at text at = search_in Yes text at

-- the match that a token is
abbrev pub token_found : Token → Found
token_found token = record { pattern = number_of token.pattern; start = token.span.start; end = token.span.end }

-- the number of the pattern of a token; none of a stretch
abbrev pub piece_pattern : Piece → Option ℕ
piece_pattern (piece.Token token) = Some (number_of token.pattern)
piece_pattern (piece.Error span) = None

-- where the piece is
abbrev pub piece_span : Piece → Span
piece_span (piece.Token token) = token.span
piece_span (piece.Error span) = span

-- the piece of the text that it is
abbrev pub piece_found : Piece → TextPiece
piece_found p = record { pattern = piece_pattern p; start = (piece_span p).start; end = (piece_span p).end }

-- the span has a byte at least, and lies in the text
pub record LiesInText (text : List ℕ) (span : Span) : Type 0 where
  pub some_bytes : span.start < span.end
  pub within : span.end ≤ length text
