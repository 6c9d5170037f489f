-- Counting the lines that are selected, where no line is printed.
use Rattle.std.specs.Prelude.{◌≡◌, ℕ, ◌+◌, ◌-◌, List, ◌++◌, length, Option, None, Some, IfSome}
use Rattle.std.specs.List.{count_by}
use Rattle.std.specs.Io.KnownBytes.{Keeps}
use Rattle.bstr.specs.Records.{records}
use Rattle.nfa_paths.specs.Common.{concat}
use Rattle.program_text.specs.Lines.{AreFirstRecords, HasNoRecord}
use Rattle.nfa_grep.specs.Going.{StopsAfter}
use Rattle.nfa_grep.specs.Meant.{Options, Re}
use Rattle.nfa_grep.specs.Printed.{is_selected, searched, selected_count}
pub use Rattle.nfa_grep.specs.declared.count.Counted.{Counted}

module _ (options : Options) (res : List Re) (limit : ℕ) where
  -- All of these lines are searched, since the limit is not reached before the last one. So many of them are selected.
  pub record AreCounted (lines : List (List ℕ)) (selected : ℕ) : Type 0 where
    pub searched_are : searched options res limit lines ≡ lines
    pub selected_is : selected ≡ count_by (is_selected options res) lines

  -- the text is lines with their ends, whatever comes after it, and these were counted
  pub record IsCounted (text : List ℕ) (counted : Counted) : Type 0 where
    pub lines : List (List ℕ)
    pub whole : (rest : List ℕ) → records options.end (text ++ rest) ≡ lines ++ records options.end rest
    pub count_is : counted.lines ≡ length lines
    pub counted_are : AreCounted lines counted.selected

  -- the first lines of the text were counted, and the reader has the others left
  pub record HasCounted (text : List ℕ) (left : Option (List ℕ)) (selected : ℕ) : Type 0 where
    pub lines : List (List ℕ)
    pub first : AreFirstRecords options.end text left lines
    pub counted_are : AreCounted lines selected

  -- the next lines of the reader were counted, or there was none, and nothing was read
  abbrev pub CountsNext : Option (List ℕ) → Option (List ℕ) → Option Counted → Type 0
  CountsNext before left None = HasNoRecord options.end before × Keeps before left
  CountsNext before left (Some counted) = IfSome before (λ text. HasCounted text left counted.selected)

  -- The bytes that are left to read are known. The lines that were selected, and those that are left to select, are as
  -- many as those of the text. The bytes that were read, and those of the lines that are still to be searched, are
  -- those of all of these.
  pub record IsCounting (text : List ℕ) (input : Option (List ℕ)) (count : ℕ) : Type 0 where
    pub rest : List ℕ
    pub rest_is : input ≡ Some rest
    pub taken : List ℕ
    pub text_is : text ≡ taken ++ rest
    pub count_is : selected_count options res limit text ≡ count + selected_count options res (limit - count) rest
    pub read_is : concat (searched options res limit (records options.end text))
        ≡ taken ++ concat (searched options res (limit - count) (records options.end rest))

  -- as many of the lines that are searched are selected, and nothing was read after them
  abbrev pub CountsLines : Option (List ℕ) → Option (List ℕ) → ℕ → Type 0
  CountsLines before left count =
      IfSome before (λ text. (count ≡ selected_count options res limit text)
      × StopsAfter text (searched options res limit (records options.end text)) left)
