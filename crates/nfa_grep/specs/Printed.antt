-- What is printed of the lines of an input, and which lines are printed around those that are selected.
use Rattle.std.specs.Prelude.{◌≡◌, ℕ, ◌+◌, ◌-◌, Bool, true, false, not, ◌&&◌, ◌||◌, None, Option, Some, List, [], ◌∷◌, ◌++◌, length, map, decimal, drop, if◌then◌else◌, ◌==◌, nat_lt, slice_range, take}
use Rattle.std.specs.List.{count_by, flat_map, join_with_byte, list_any}
use Rattle.bstr.specs.Records.{records}
use Rattle.nfa_engines.specs.PatternSets.{patterns_of}
use Rattle.nfa_grep.specs.Required.{OccursIn}
use Rattle.program_text.specs.Lines.{HasBytes, line_feed, record_content, with_end}
pub use Rattle.grep_options.specs.Reports.{context_of, limit_of, shows}
pub use Rattle.grep_options.specs.declared.options.Context.{Context}
pub use Rattle.grep_options.specs.declared.options.Report.{Report}
use Rattle.grep_options.specs.declared.options.Report.TheVariants.{Lines, Count, With, Without, Nothing}
use Rattle.nfa_search_base.specs.Common.{Found}
use Rattle.nfa_grep.specs.Meant.{ArePatterns, Options, Re, all_found, is_found, span_of, which_found}
use Rattle.nfa_grep.specs.Painted.{Colours, aligned, code_of, label, painted, painted_text}
use Rattle.nfa_grep.specs.declared.paint.Colour.{Colour}
use Rattle.nfa_grep.specs.declared.paint.Colour.TheVariants.{Line, Match, Name, NearLine, NearMatch, Number, Offset, Separator}

-- the byte after each label of a line that is selected
abbrev pub colon : ℕ
colon = 58

-- the byte between the numbers of patterns
abbrev pub comma : ℕ
comma = 44

-- what comes after each label of a line: a hyphen if it is printed because of a line near it
abbrev pub mark_end : Bool → ℕ
mark_end selected = if selected then colon else 45

-- a label and this byte, if it is wanted
abbrev pub label_if : Bool → Option Colours → Colour → ℕ → List ℕ → List ℕ
label_if wanted colours colour end text = if wanted then label colours colour end text else []

-- what is after the name of an input: a byte 0 if that is wanted, and else this byte
abbrev pub name_end : Options → ℕ → List ℕ
name_end options end = if options.zero_names then 0 ∷ [] else painted options.colours Separator (end ∷ [])

-- the name of an input, if it is wanted
abbrev pub name_label : Options → ℕ → List ℕ → List ℕ
name_label options end name =
    if options.named then (painted options.colours Name name ++ name_end options end) else []

-- the numbers, with commas between them
abbrev pub number_list : List ℕ → List ℕ
number_list numbers = join_with_byte comma (map decimal numbers)

-- a line without its end
abbrev pub text_of : Options → List ℕ → List ℕ
text_of options line = record_content options.end line

-- the numbers of the patterns that match in the text of a line, if they are wanted
abbrev pub mark_of : Options → List Re → List ℕ → List ℕ
mark_of options res line =
    if options.which then number_list (patterns_of (which_found res (text_of options line))) else []

-- a tab, if it is wanted and something is before it and after it in its line: a label, and some of the text
abbrev pub tab_if : Options → Bool → List ℕ
tab_if options some =
    if (options.tabbed && some) && (options.named || (options.which || (options.numbers || options.offsets)))
    then 9 ∷ [] else []

-- How wide the numbers of lines and offsets of an input are: as wide as its size in bytes, or, if lines are numbered,
-- as that and one more. If the size is not known, they are as wide as the largest one that an input may have.
abbrev pub width_of : Bool → Option ℕ → ℕ
width_of numbers (Some size) = length (decimal (if numbers then size + 1 else size))
width_of numbers None = 19

-- the number of a line and the offset, each as a label, if they are wanted
abbrev pub numbers_of : Options → ℕ → ℕ → ℕ → List ℕ
numbers_of options end number offset =
    label_if options.numbers options.colours Number end (aligned options.width (decimal number))
    ++ label_if options.offsets options.colours Offset end (aligned options.width (decimal offset))

-- What comes before a line or a match: the name of the input, the mark, the number, the offset and a tab, if they are
-- wanted. `some` says that there is some text after them.
unfoldable pub head : Options → ℕ → List ℕ → List ℕ → ℕ → ℕ → Bool → List ℕ
head options end name mark number offset some =
    name_label options end name
    ++ (label_if options.which options.colours Number end mark
    ++ (numbers_of options end number offset ++ tab_if options some))

-- whether the line has a byte before its end
abbrev pub has_text : Options → List ℕ → Bool
has_text options [] = false
has_text options (first ∷ rest) = not (first == options.end)

-- the colour of the matches in a line with this byte after its labels
abbrev pub match_colour : ℕ → Colour
match_colour end = if end == colon then Match else NearMatch

-- the colour of the rest of a line with this byte after its labels
abbrev pub line_colour : Options → Colours → ℕ → Colour
line_colour options colours end =
    if options.inverted && colours.reversed then (if end == colon then NearLine else Line)
    else (if end == colon then Line else NearLine)

-- what is printed of a match that starts and ends there: nothing of an empty one
abbrev pub piece : Options → ℕ → List ℕ → List ℕ → ℕ → ℕ → List ℕ → ℕ × ℕ → List ℕ
piece options end name mark number offset line span =
    if span.0 == span.1 then []
    else (head options end name mark number (offset + span.0) true
    ++ (painted options.colours (match_colour end) (slice_range line span.0 span.1) ++ options.end ∷ []))

-- whether the line is selected
abbrev pub is_selected : Options → List Re → List ℕ → Bool
is_selected options res line =
    if options.inverted then not (is_found res (text_of options line)) else is_found res (text_of options line)

-- the bytes are in each line that is selected
abbrev pub IsNeeded : Options → List Re → List ℕ → Type 0
IsNeeded options res bytes =
    (line : List ℕ) → HasBytes line → is_selected options res line ≡ true → OccursIn line bytes

-- the same of what the texts mean
pub record AreNeeded (options : Options) (texts : List (List ℕ)) (bytes : List ℕ) : Type 0 where
  pub each : (res : List Re) → ArePatterns options texts res → IsNeeded options res bytes

-- what is printed of the matches in a line, in order
abbrev pub shown_matches : Options → ℕ → List Re → List ℕ → ℕ → ℕ → List ℕ → List ℕ
shown_matches options end res name number offset line =
    flat_map (piece options end name (mark_of options res line) number offset line)
    (map span_of (all_found res (text_of options line)))

-- Whether the matches of a whole line are in a colour of their own: those of lines that are selected, and if these are
-- the lines without a match, those of the others.
abbrev pub has_colours : Options → Colours → ℕ → Bool
has_colours options colours end =
    not (length (code_of colours (match_colour end)) == 0)
    && (if options.inverted then not (end == colon) else (end == colon))

-- the matches of a whole line that are in a colour of their own
abbrev pub coloured_found : Options → Colours → ℕ → List Re → List ℕ → List Found
coloured_found options colours end res text = if has_colours options colours end then all_found res text else []

-- a whole line in these colours: its text, and its end, which has none
unfoldable pub painted_line : Options → Colours → ℕ → List Re → List ℕ → List ℕ
painted_line options colours end res line =
    painted_text colours (line_colour options colours end) (match_colour end) (text_of options line)
    (coloured_found options colours end res (text_of options line))
    ++ with_end options.end (drop (length (text_of options line)) line)

-- a whole line, in colours if there are any
abbrev pub line_in : Option Colours → Options → ℕ → List Re → List ℕ → List ℕ
line_in None options end res line = with_end options.end line
line_in (Some colours) options end res line = painted_line options colours end res line

-- what is printed of a whole line
abbrev pub shown_whole : Options → ℕ → List Re → List ℕ → ℕ → ℕ → List ℕ → List ℕ
shown_whole options end res name number offset line =
    head options end name (mark_of options res line) number offset (has_text options line)
    ++ line_in options.colours options end res line

-- What is printed of a line that is printed, which may be selected. With `only`, matches are printed of lines that are
-- selected, and if these are the lines without a match, of the others.
abbrev pub shown : Options → List Re → List ℕ → ℕ → ℕ → Bool → List ℕ → List ℕ
shown options res name number offset selected line =
    if options.only
    then (if (if options.inverted then not selected else selected)
    then shown_matches options (mark_end selected) res name number offset line else [])
    else shown_whole options (mark_end selected) res name number offset line

-- what is printed of a line because it is selected
abbrev pub shown_if_selected : Options → List Re → List ℕ → ℕ → ℕ → List ℕ → List ℕ
shown_if_selected options res name number offset line =
    if is_selected options res line then shown options res name number offset true line else []

-- the number of lines that may still be selected after a line
abbrev pub fewer : ℕ → Bool → ℕ
fewer limit selected = if selected then (limit - 1) else limit

-- the lines of these that are searched: up to the selected line with which the limit is reached
unfoldable pub searched : Options → List Re → ℕ → List (List ℕ) → List (List ℕ)
searched options res limit [] = []
searched options res limit (line ∷ lines) =
    if limit == 0 then []
    else (line ∷ searched options res (fewer limit (is_selected options res line)) lines)

-- whether the line is selected, if at most `limit` more lines may be selected
abbrev pub is_picked : Options → List Re → ℕ → List ℕ → Bool
is_picked options res limit line = if limit == 0 then false else is_selected options res line

-- how many lines after this one are printed even if none of them is selected
abbrev pub left_after : Context → ℕ → Bool → ℕ
left_after context left selected = if selected then context.after else (left - 1)

-- a line: whether it is selected, and what is printed of it if it is printed
pub record Item : Type 0 where
  pub selected : Bool
  pub text : List ℕ

-- a line and what is printed of it
abbrev pub item_of : Options → List Re → List ℕ → ℕ → ℕ → Bool → List ℕ → Item
item_of options res name number offset selected line =
    record { selected = selected; text = shown options res name number offset selected line }

-- these lines, and what is printed of each: the first one has this number and starts at this offset
unfoldable pub items : Options → List Re → List ℕ → ℕ → ℕ → ℕ → List (List ℕ) → List Item
items options res name limit number offset [] = []
items options res name limit number offset (line ∷ lines) =
    item_of options res name number offset (is_picked options res limit line) line
    ∷ items options res name (fewer limit (is_picked options res limit line)) (number + 1) (offset + length line) lines

-- The lines of these that are read. After the selected line with which the limit is reached only those are that are
-- printed because of it.
unfoldable pub read : Options → List Re → Context → ℕ → ℕ → List (List ℕ) → List (List ℕ)
read options res context limit left [] = []
read options res context limit left (line ∷ lines) =
    if (limit == 0) && (left == 0) then []
    else (line ∷ read options res context (fewer limit (is_picked options res limit line))
    (left_after context left (is_picked options res limit line)) lines)

-- the number of lines of a text that are selected, up to the limit
abbrev pub selected_count : Options → List Re → ℕ → List ℕ → ℕ
selected_count options res limit text =
    count_by (is_selected options res) (searched options res limit (records options.end text))

-- the lines of a text that are read
abbrev pub read_in : Options → List Re → Context → ℕ → List ℕ → List (List ℕ)
read_in options res context limit text = read options res context limit 0 (records options.end text)

-- what is between groups of lines, as a line
abbrev pub separator : Context → List ℕ
separator context = painted context.colours Separator context.separator.now ++ line_feed ∷ []

-- whether some line is selected
abbrev pub has_selected : List Item → Bool
has_selected items = list_any (λ item. item.selected) items

-- Whether the line is printed: it is selected, or it is one of the `left` lines that are still printed after one that
-- is selected, or one of the first lines after it, as many as are printed before a line, is selected.
abbrev pub is_printed : Context → ℕ → Item → List Item → Bool
is_printed context left item later =
    item.selected || (nat_lt 0 left || has_selected (take context.before later))

-- What is printed before a line: the separator, if a line was printed before, a line between both was not or both are
-- of different inputs, and separators are wanted.
abbrev pub between : Context → Bool → Bool → List ℕ
between context used gap = if (used && gap) && context.separated then separator context else []

-- What is printed of these lines. `used` says that some line was printed before, and `gap` that the line before the
-- first of these was not.
unfoldable pub grouped : Context → Bool → Bool → ℕ → List Item → List ℕ
grouped context used gap left [] = []
grouped context used gap left (item ∷ items) =
    if is_printed context left item items
    then (between context used gap
    ++ (item.text ++ grouped context true false (left_after context left item.selected) items))
    else grouped context used true (left_after context left item.selected) items

-- What is printed of the lines of a text: of those that are selected, up to the limit, and of those around them. `used`
-- says that some line of another text was printed before.
abbrev pub printed : Options → List Re → List ℕ → Context → Bool → ℕ → List ℕ → List ℕ
printed options res name context used limit text =
    grouped context used true 0 (items options res name limit 1 0 (records options.end text))

-- the same, if lines are printed
abbrev pub printed_if : Report → Options → List Re → List ℕ → Context → Bool → ℕ → List ℕ → List ℕ
printed_if report options res name context used limit text =
    if shows report then printed options res name context used limit text else []

-- the name of the input, as a line, or with a byte 0 after it
abbrev pub name_line : Options → List ℕ → List ℕ
name_line options name =
    painted options.colours Name name ++ (if options.zero_names then 0 else line_feed) ∷ []

-- the number of the selected lines, as a line
abbrev pub count_line : Options → List ℕ → ℕ → List ℕ
count_line options name count =
    name_label options colon name ++ (decimal count ++ line_feed ∷ [])

-- what is printed after the lines of an input, of which `count` are selected
abbrev pub summary : Report → Options → List ℕ → ℕ → List ℕ
summary Lines options name count = []
summary Count options name count = count_line options name count
summary With options name count = if count == 0 then [] else name_line options name
summary Without options name count = if count == 0 then name_line options name else []
summary Nothing options name count = []

-- all that is printed of a text
abbrev pub output : Report → Options → List Re → List ℕ → Context → Bool → ℕ → List ℕ → List ℕ
output report options res name context used limit text =
    printed_if report options res name context used limit text
    ++ summary report options name (selected_count options res (limit_of report limit) text)
