-- A search of an input that is under way, and one that has ended.
use Rattle.std.specs.Prelude.{◌≡◌, ℕ, ◌+◌, ◌-◌, ◌<◌, ◌≤◌, ◌⊎◌, All, Bool, true, false, List, [], ◌∷◌, ◌++◌, Option, None, Some, IfSome, if◌then◌else◌, length, map}
use Rattle.std.specs.Io.KnownBytes.{Keeps}
use Rattle.bstr.specs.Records.{records}
use Rattle.nfa_paths.specs.Common.{concat, Appends}
use Rattle.program_text.specs.Lines.{AreFirstRecords, HasNoRecord, TakesRecord}
use Rattle.nfa_grep.specs.Meant.{Options, Re}
use Rattle.nfa_grep.specs.Printed.{Context, Item, Report, context_of, grouped, is_selected, item_of, items, left_after, limit_of, output, printed, printed_if, read, read_in, selected_count}
pub use Rattle.nfa_grep.specs.declared.groups.Groups.{Groups}
pub use Rattle.nfa_grep.specs.declared.line.Place.{Place}
pub use Rattle.nfa_grep.specs.declared.search.LineStart.{LineStart}
pub use Rattle.nfa_grep.specs.declared.search.Taken.{Taken}

-- the reader has what comes after these lines of the text, and so it has not read beyond them
pub record StopsAfter (text : List ℕ) (lines : List (List ℕ)) (input : Option (List ℕ)) : Type 0 where
  pub rest : List ℕ
  pub rest_is : input ≡ Some rest
  pub text_is : text ≡ concat lines ++ rest

-- the lines that are kept, none of which is selected
abbrev pub kept_items : List (List ℕ) → List Item
kept_items texts = map (λ text. record { selected = false; text = text }) texts

-- their texts
abbrev pub kept_texts : Groups → List (List ℕ)
kept_texts groups = map (λ text. text.items) groups.kept.items

-- what is still printed if these lines come next
abbrev pub printed_later : Groups → List Item → List ℕ
printed_later groups later =
    grouped groups.context groups.used groups.gap groups.left (kept_items (kept_texts groups) ++ later)

-- No more lines are kept than are printed before one that is selected, and none while lines are printed after one: then
-- some line was printed, and the last one was.
pub record IsInOrder (groups : Groups) : Type 0 where
  pub within : length (kept_texts groups) ≤ groups.context.before
  pub printing : (groups.left ≡ 0) ⊎ ((kept_texts groups ≡ []) × (groups.used ≡ true) × (groups.gap ≡ false))

-- These lines were passed: none of them is selected, and the reader has the others left. Number and offset go on by
-- them, and no line was still to be printed after a selected one. What is printed of as many lines that are not
-- selected, and of others, is what is printed of the others.
pub record HasPassed (options : Options) (res : List Re) (text : List ℕ) (left : Option (List ℕ)) (at next : LineStart)
    (old new : Groups) : Type 0 where
  pub lines : List (List ℕ)
  pub first : AreFirstRecords options.end text left lines
  pub number_is : next.number ≡ at.number + length lines
  pub offset_is : next.offset ≡ at.offset + length (concat lines)
  pub unselected : All (λ line. is_selected options res line ≡ false) lines
  pub none_left : 0 < length lines → old.left ≡ 0
  pub printed_is : (items : List Item) → length lines ≡ length items → All (λ item. item.selected ≡ false) items
      → (later : List Item) → printed_later old (items ++ later) ≡ printed_later new later

module _ (options : Options) (res : List Re) (place : Place) (searched : Bool) (old new : Groups) where
  -- The line at this place was taken. It is selected or not, and not if it is not searched. Number and offset go on by
  -- it. What is printed of it and of later lines is `ahead`, `text`, and what is printed of the later ones.
  pub record TakesLine (taken : Taken) (line : List ℕ) : Type 0 where
    pub number_is : taken.next.number ≡ place.number + 1
    pub offset_is : taken.next.offset ≡ place.offset + length line
    pub selected_is : taken.selected ≡ (if searched then is_selected options res line else false)
    pub printed_is : (later : List Item)
        → printed_later old (item_of options res place.name.now place.number place.offset taken.selected line
        ∷ later) ≡ (new.ahead.items ++ new.text.items) ++ printed_later new later
    pub left_is : new.left ≡ left_after old.context old.left taken.selected

  -- the next line of the reader was taken, or there was none, and nothing was read
  abbrev pub TakesNext : Option (List ℕ) → Option (List ℕ) → Option Taken → Type 0
  TakesNext before left None = HasNoRecord options.end before × Keeps before left
  TakesNext before left (Some taken) =
      (line : List ℕ) × TakesRecord options.end before left line × TakesLine taken line

module _ (options : Options) (res : List Re) (name : List ℕ) (context : Context) (used : Bool)
    (limit : ℕ) where
  -- The bytes that are left to read are known. What was written, and what is printed of the lines that are left, is
  -- what is printed of the text. The lines that were selected, and those that are left to select, are as many as those
  -- of the text. The bytes that were read, and those of the lines that are still to be read, are those of all of these.
  pub record IsGoing (text : List ℕ) (input out-before out : Option (List ℕ)) (number offset count : ℕ)
      (groups : Groups) : Type 0 where
    pub rest : List ℕ
    pub rest_is : input ≡ Some rest
    pub written : List ℕ
    pub writes : Appends out-before out written
    pub taken : List ℕ
    pub text_is : text ≡ taken ++ rest
    pub printed_is : printed options res name context used limit text ≡ written
        ++ printed_later groups (items options res name (limit - count) number offset
        (records options.end rest))
    pub count_is : selected_count options res limit text ≡ count + selected_count options res (limit - count) rest
    pub read_is : concat (read_in options res context limit text)
        ≡ taken ++ concat (read options res context (limit - count) groups.left (records options.end rest))

  -- The lines of the text that are to be printed were printed, and `count` of those that were searched are selected.
  -- Nothing was read after the lines that are read.
  abbrev pub PrintsLines : Option (List ℕ) → Option (List ℕ) → Option (List ℕ) → Option (List ℕ) → ℕ → Type 0
  PrintsLines input-before input out-before out count =
      IfSome input-before (λ text.
      Appends out-before out (printed options res name context used limit text)
      × (count ≡ selected_count options res limit text)
      × StopsAfter text (read_in options res context limit text) input)

module _ (report : Report) (options : Options) (res : List Re) (name : List ℕ) (context : Context) (used : Bool)
    (limit : ℕ) where
  -- the same, if lines are printed; else they are counted
  abbrev pub PrintsReport : Option (List ℕ) → Option (List ℕ) → Option (List ℕ) → Option (List ℕ) → ℕ → Type 0
  PrintsReport input-before input out-before out count =
      IfSome input-before (λ text.
      Appends out-before out (printed_if report options res name context used limit text)
      × (count ≡ selected_count options res (limit_of report limit) text)
      × StopsAfter text (read_in options res (context_of report context) (limit_of report limit) text) input)

  -- what is to be printed of the text was printed, and `count` of the lines that were searched are selected
  abbrev pub PrintsOutput : Option (List ℕ) → Option (List ℕ) → Option (List ℕ) → ℕ → Type 0
  PrintsOutput input out-before out count =
      IfSome input (λ text. Appends out-before out (output report options res name context used limit text)
      × (count ≡ selected_count options res (limit_of report limit) text))

module _ (report : Report) (options : Options) (res : List Re) (context : Context) (limit : ℕ) where
  -- nothing was read after the line with which the limit is reached, and after those that are printed because of it
  abbrev pub StopsInTime : Option (List ℕ) → Option (List ℕ) → Type 0
  StopsInTime input-before input = IfSome input-before (λ text.
      StopsAfter text (read_in options res (context_of report context) (limit_of report limit) text) input)
