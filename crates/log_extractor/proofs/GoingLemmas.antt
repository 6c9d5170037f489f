-- A run over an input starts, goes on by a line, and ends.
use Rattle.nfa_paths.proofs.Common.{◌≡◌, ◌∙◌, ℕ, List, [], ◌∷◌, ◌++◌, ap, arith, Option, Some, IfSome, flat_map, common_steps, flat_map-append}
use Rattle.std.proofs.Common.{Bool, true, false, Result, Ok, Err, IfOk}
use Rattle.std.specs.Io.KnownBytes.{Keeps}
use Rattle.program_text.specs.Lines.{line_feed, lines_of, AreFirstRecords, HasNoRecord, TakesRecord}
use Rattle.program_text.proofs.LineLemmas.{if-kept, records-of-parts}
use Rattle.log_extractor.specs.Taken.{TakesNext}
use Rattle.log_extractor.specs.Printed.{extracted_lines, shown_line}
use Rattle.log_extractor.specs.Several.{LabelledPattern}
use Rattle.log_extractor.specs.declared.output.Output.{Output}
use Rattle.log_extractor.specs.declared.selection.Selection.{Selection}

-- These lines were taken from the text. The reader has the others left, and this holds of those that were taken.
pub record HasTaken (Holds : List (List ℕ) → Type 0) (text : List ℕ) (input : Option (List ℕ)) : Type 0 where
  pub rest : List ℕ
  pub rest_is : input ≡ Some rest
  pub lines : List (List ℕ)
  pub lines_are : lines_of text ≡ lines ++ lines_of rest
  pub holds : Holds lines

-- the same, if the bytes of the reader were known at first
abbrev pub Taken : (List (List ℕ) → Type 0) → Option (List ℕ) → Option (List ℕ) → Type 0
Taken Holds before input = IfSome before (λ text. HasTaken Holds text input)

module _ (P : List (List ℕ) → Type 0) where
  pub taken-none : (input : Option (List ℕ)) → P [] → Taken P input input
  taken-none input none = grind (arith, common_steps, none)

  -- one more line was read
  pub taken-more : (Q : List (List ℕ) → Type 0) (before input after : Option (List ℕ)) (line : List ℕ)
      → TakesRecord line_feed input after line → ((lines : List (List ℕ)) → P lines → Q (lines ++ line ∷ []))
      → Taken P before input → Taken Q before after
  taken-more Q before input after line takes step taken = grind (arith, common_steps, takes, step, taken)

  -- nothing was left to read
  pub taken-all : (before input : Option (List ℕ)) → HasNoRecord line_feed input → Taken P before input
      → IfSome before (λ text. P (lines_of text))
  taken-all before input end taken = grind (arith, common_steps, end, taken)

-- what was taken of a reader after a call of `fill_buf`
module _ (before filled left : Option (List ℕ)) (keeps : Keeps before filled) where
  next-kept : (Holds : List ℕ → Type 0) (more : Bool) → TakesNext filled left Holds more
      → TakesNext before left Holds more
  next-kept Holds true (line, is, holds) = (
    line,
    if-kept (λ text. AreFirstRecords line_feed text left (line ∷ [])) before filled keeps is,
    holds,
  )
  next-kept Holds false none = if-kept (λ text. lines_of text ≡ []) before filled keeps none

  pub result-kept : {A E : Type 0} (Holds : A → List ℕ → Type 0) (more : A → Bool) (result : Result A E)
      → IfOk result (λ a. TakesNext filled left (Holds a) (more a))
      → IfOk result (λ a. TakesNext before left (Holds a) (more a))
  result-kept Holds more (Ok a) taken = next-kept (Holds a) (more a) taken
  result-kept Holds more (Err error) taken = tt

-- the same is printed of a text as of its parts
pub printed-joined : (output : Output) (selection : Selection) (ps : List LabelledPattern) (a b : List ℕ)
    → extracted_lines output selection ps (a ++ line_feed ∷ [] ++ b)
    ≡ extracted_lines output selection ps (a ++ line_feed ∷ []) ++ extracted_lines output selection ps b
printed-joined output selection ps a b =
    ap (λ lines. flat_map (shown_line output selection ps) lines) (records-of-parts line_feed a b)
    ∙ flat_map-append (shown_line output selection ps) (lines_of (a ++ line_feed ∷ [])) (lines_of b)
