-- What is printed for the tokens of a text.
use Rattle.std.specs.Prelude.{ℕ, ◌+◌, ◌≡◌, ◌≤◌, Bool, List, [], ◌++◌, Option, None, Some, codes, flat_map, length, option_map, slice_get, slice_range, unwrap_or, if◌then◌else◌}
use Rattle.std.specs.Borrow.{Bor}
use Rattle.std.specs.Fmt.{decimal}
use Rattle.std.specs.Io.KnownBytes.{Appends}
use Rattle.std.specs.List.{list_all, list_any}
use Rattle.std.specs.Str.{bytes_eq}
use Rattle.std.specs.Str.Lossy.{utf8_lossy}
use Rattle.json.specs.Print.{quoted}
use Rattle.regex_hir.specs.Re.{Re}
use Rattle.regex_search_core.specs.declared.search.Span.{Span}
use Rattle.lexer.specs.Lexed.{TextPiece, is_token, lexed, piece_there, pieces_from, recovered, stuck_in}
use Rattle.lexer.specs.Positions.{position_at}
use Rattle.lexer.specs.declared.position.Position.{Position}
use Rattle.lexer.specs.declared.report.Outcome.{Outcome}
use Rattle.lexer.specs.declared.report.Outcome.TheVariants.{Errors, Stuck, Whole}
use Rattle.lexer.specs.declared.report.Style.{Style}
use Rattle.lexer.specs.declared.rules.Rule.{Rule}

-- the name of a rule and a span
abbrev pub shown_span : List ℕ → Span → List ℕ
shown_span name span = name ++ codes " " ++ decimal span.start ++ codes ".." ++ decimal span.end

-- a space, and a line and a column, if they are printed
abbrev pub shown_position : Option Position → List ℕ
shown_position None = []
shown_position (Some position) = codes " " ++ decimal position.line ++ codes ":" ++ decimal position.column

-- the name of a rule, a span, and the position of its start
abbrev pub shown_place : List ℕ → Span → Option Position → List ℕ
shown_place name span position = shown_span name span ++ shown_position position

-- a space, a text, and the end of the line
abbrev pub shown_text : List ℕ → List ℕ
shown_text text = codes " " ++ (text ++ codes "\n")

-- the line of a token of this rule: its name, the place, and the text if that is not hidden
abbrev pub rule_line : Rule → Span → Option Position → List ℕ → List ℕ
rule_line rule span position text =
    shown_place rule.name.now span position ++ (if rule.hidden then codes "\n" else shown_text text)

-- whether the name is one of these
abbrev pub is_in : List (Bor (List ℕ)) → List ℕ → Bool
is_in names name = list_any (λ other. bytes_eq other.now name) names

-- the members of a position, if it is printed
abbrev pub position_members : Option Position → List ℕ
position_members None = []
position_members (Some position) =
    codes ",\"line\":" ++ decimal position.line ++ codes ",\"column\":" ++ decimal position.column

-- A token as a JSON object, on a line. Bytes that are not UTF-8 become U+FFFD.
abbrev pub object_line : List ℕ → Span → Option Position → List ℕ → List ℕ
object_line name span position text =
    codes "{\"kind\":" ++ quoted (utf8_lossy name) ++ codes ",\"start\":" ++ decimal span.start ++ codes ",\"end\":"
    ++ decimal span.end
    ++ (position_members position ++ (codes ",\"text\":" ++ quoted (utf8_lossy text) ++ codes "}\n"))

-- the line of a token of this rule in a style, but nothing if the name of the rule is one of those to skip
abbrev pub shown_unless_skipped : Style → Rule → Span → Option Position → List ℕ → List ℕ
shown_unless_skipped style rule span position text =
    if is_in style.skip.now rule.name.now
    then []
    else if style.json then object_line rule.name.now span position text
    else rule_line rule span position text

-- the line of a piece of this name that is no token of a rule
abbrev pub named_line : List ℕ → Span → Option Position → List ℕ → List ℕ
named_line name span position text = shown_place name span position ++ shown_text text

-- the line of a stretch at which no token starts
abbrev pub error_line : Style → Span → Option Position → List ℕ → List ℕ
error_line style span position text =
    if style.json then object_line (codes "error") span position text
    else named_line (codes "error") span position text

-- The line of a token of the pattern of this number: nothing if its rule is one to skip. If no rule has the number, the
-- name is `?`.
abbrev pub pattern_line : Style → List Rule → ℕ → Span → Option Position → List ℕ → List ℕ
pattern_line style rules number span position text =
    unwrap_or (option_map (λ rule. shown_unless_skipped style rule span position text) (slice_get rules number))
    (named_line (codes "?") span position text)

-- the line of a token of this pattern, or of a stretch of none
abbrev pub kind_line : Style → List Rule → Option ℕ → Span → Option Position → List ℕ → List ℕ
kind_line style rules None span position text = error_line style span position text
kind_line style rules (Some number) span position text = pattern_line style rules number span position text

-- the position of a place in the text, if positions are printed
abbrev pub position_if : Bool → List ℕ → ℕ → Option Position
position_if positions text at = if positions then Some (position_at text at) else None

-- the line of a piece of the text
abbrev pub piece_line : Style → List Rule → List ℕ → TextPiece → List ℕ
piece_line style rules text piece =
    kind_line style rules piece.pattern (record { start = piece.start; end = piece.end })
    (position_if style.positions text piece.start) (slice_range text piece.start piece.end)

-- the lines of these pieces
abbrev pub piece_lines : Style → List Rule → List ℕ → List TextPiece → List ℕ
piece_lines style rules text pieces = flat_map (piece_line style rules text) pieces

-- what is printed of the tokens of a text by these rules, which mean `res`
abbrev pub printed_tokens : Style → List Rule → List Re → List ℕ → List ℕ
printed_tokens style rules res text = piece_lines style rules text (lexed style.prefer res text)

-- what is printed of the pieces of a text
abbrev pub printed_pieces : Style → List Rule → List Re → List ℕ → List ℕ
printed_pieces style rules res text = piece_lines style rules text (recovered style.prefer res text)

-- what is printed of a text: its pieces if the lexer goes on after errors, and otherwise its tokens
abbrev pub printed_text : Style → List Rule → List Re → List ℕ → List ℕ
printed_text style rules res text =
    if style.recover then printed_pieces style rules res text else printed_tokens style rules res text

-- The outcome if this is the first place at which no token starts: the tokens are the whole text if there is none. If
-- the lexer goes on, the text has an error, and otherwise the lexer is stuck at that place.
abbrev pub outcome_at : Bool → List ℕ → Option ℕ → Outcome
outcome_at recover text None = Whole
outcome_at recover text (Some at) = if recover then Errors else Stuck at (position_at text at)

-- the outcome of a text in a style
abbrev pub outcome_of : Style → List Re → List ℕ → Outcome
outcome_of style res text = outcome_at style.recover text (stuck_in style.prefer res text)

-- How far a text was printed: the lines of its pieces up to this place were written, all of tokens if the text is
-- `whole` so far. At most `left` pieces are from there on, and with them they are the pieces of the text.
pub record HasPrinted (res : List Re) (text : List ℕ) (style : Style) (rules : List Rule) (at : ℕ) (whole : Bool)
    (out-before out : Option (List ℕ)) : Type 0 where
  pub pieces : List TextPiece
  pub left : ℕ
  pub enough : length text ≤ left + at
  pub goes_on : recovered style.prefer res text
      ≡ pieces ++ pieces_from (piece_there style.prefer res text) (length text) left at
  pub written : Appends out-before out (piece_lines style rules text pieces)
  pub whole_is : whole ≡ list_all is_token pieces
