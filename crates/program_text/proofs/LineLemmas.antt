-- The records of a text, by those of its parts, what reads and passes give of them, and where bytes occur in them.
use Rattle.std.proofs.Common.{ℕ, ◌+◌, ◌<◌, All, List, [], ◌∷◌, ◌++◌, length, take, drop, arith, length-append, take-append-drop, ◌≡◌, Option, Some, IfSome, Bool, true, false, ap, refl, ◌==◌, cond, ◌≤◌, length-take-le, rules, slice_index, take_all, drop_of_length-le, eq-eqb, eqb-true, sym, ◌∙◌, None, subst}
use Rattle.std.specs.List.{concat, count_by}
use Rattle.std.proofs.Math.Seq.{drop-append_seam, take-append_seam}
use Rattle.std.proofs.lemmas.Grind.{common_steps}
use Rattle.std.proofs.lemmas.List.{get_or-append-add, get_or_append_left, get_or-take}
use Rattle.std.proofs.lemmas.List.Elements.{All-cons, All-drop, All-nil, All-take}
use Rattle.memchr.specs.Find.{OccursAt, Passes, is_byte, places}
use Rattle.program_text.specs.Lines.{HasBytes, Lacks, record_content, AreFirstRecords, TakesRecord, line_feed, lines_of, EndsRecord, HasWhole, PassesRecords, HasNoRecord, IsRecord}
use Rattle.bstr.specs.Records.{records}
use Rattle.std.specs.Io.{StartsWith}
use Rattle.std.specs.Io.BufRead.{take_through, DropsConsumable, DropsThrough}
use Rattle.std.proofs.BufReadLemmas.{Consumes_shown, take_through_nonempty}
use Rattle.bstr.proofs.lemmas.RecordLemmas.{records-at, records-step, records-nil}
use Rattle.std.proofs.lemmas.List.Folds.{concat-append}
use Rattle.std.specs.Io.KnownBytes.{Consumes, Keeps}
use Rattle.memchr.proofs.lemmas.CallerLemmas.{length-places}
use Rattle.program_text.specs.declared.passed.Passed.{Passed}

-- a record without its end has what each front of a text has that has it itself
of-content : (P : List ℕ → Type 0) → ((n : ℕ) (text : List ℕ) → P text → P (take n text)) → (end : ℕ) (line : List ℕ)
    → P line → P (record_content end line)
of-content P front end line holds = grind (arith, front)

module _ (bytes : List ℕ) where
  occurs-left : (a b : List ℕ) (k : ℕ) → OccursAt a bytes k → OccursAt (a ++ b) bytes k
  occurs-left a b k here = grind (arith, common_steps, here, length-append, get_or_append_left)

  occurs-right : (a b : List ℕ) (k : ℕ) → OccursAt b bytes k → OccursAt (a ++ b) bytes (length a + k)
  occurs-right a b k here = grind (arith, here.fits, here.reads, length-append, get_or-append-add)

  pub occurs-take : (n : ℕ) (text : List ℕ) (k : ℕ) → OccursAt (take n text) bytes k → OccursAt text bytes k
  occurs-take n text k here = rw take-append-drop at (occurs-left (take n text) (drop n text) k here)

  -- what is in a record without its end is in the record
  pub occurs-record : (end : ℕ) (line : List ℕ) (k : ℕ) → OccursAt (record_content end line) bytes k
      → OccursAt line bytes k
  occurs-record end line k =
      of-content (λ text. OccursAt text bytes k → OccursAt line bytes k)
      (λ n text within here. within (occurs-take n text k here)) end line (λ here. here)

  -- bytes that are not in the lines, one after the other, are in none of them
  pub each-lacks : (lines : List (List ℕ)) → Lacks (concat lines) bytes → All (λ line. Lacks line bytes) lines
  each-lacks [] none = All-nil (λ line. Lacks line bytes)
  each-lacks (line ∷ lines) none =
      All-cons (λ line. Lacks line bytes) line lines
      (λ k here. none k (occurs-left line (concat lines) k here))
      (each-lacks lines (λ k here. none (length line + k) (occurs-right line (concat lines) k here)))

-- a record without its end has bytes if the record does
pub bytes-record : (end : ℕ) (line : List ℕ) → HasBytes line → HasBytes (record_content end line)
bytes-record = of-content HasBytes (All-take (λ b. b < 256))

-- each of the lines has bytes if these, one after the other, do
pub each-bytes : (lines : List (List ℕ)) → HasBytes (concat lines) → All HasBytes lines
each-bytes [] all = All-nil HasBytes
each-bytes (line ∷ lines) all =
    All-cons HasBytes line lines
    (rw take-append_seam at (All-take (λ b. b < 256) (length line) (line ++ concat lines) all))
    (each-bytes lines (rw drop-append_seam at (All-drop (λ b. b < 256) (length line) (line ++ concat lines) all)))

-- a record that has a byte
pub takes-record : (end : ℕ) (before left : Option (List ℕ)) (line : List ℕ) → 0 < length line
    → IfSome before (λ text. line ≡ take_through end text) → DropsThrough before left end
    → TakesRecord end before left line
takes-record end before left line some takes drops = grind (arith, common_steps, records-step, take_through_nonempty)

-- what a reader has left, if `fill_buf` was called before
pub if-kept : (P : List ℕ → Type 0) (before filled : Option (List ℕ)) → Keeps before filled → IfSome filled P
    → IfSome before P
if-kept P None filled keeps holds = tt
if-kept P (Some text) None keeps holds = absurd keeps
if-kept P (Some text) (Some kept) keeps holds = subst P keeps holds

-- the first line of the text was taken from the reader
pub first-line : (before : Option (List ℕ)) (text : List ℕ) → before ≡ Some text → (left : Option (List ℕ))
    (line : List ℕ) → TakesRecord line_feed before left line → AreFirstRecords line_feed text left (line ∷ [])
first-line before text known left line takes = rw known at takes

-- the text has no line
pub none-left : (before : Option (List ℕ)) (text : List ℕ) → before ≡ Some text → HasNoRecord line_feed before
    → lines_of text ≡ []
none-left before text known none = rw known at none

-- the records, with a byte before the first, which is a record itself if the byte ends one
abbrev pub with_byte : Bool → ℕ → List (List ℕ) → List (List ℕ)
with_byte true b lines = (b ∷ []) ∷ lines
with_byte false b [] = (b ∷ []) ∷ []
with_byte false b (line ∷ lines) = (b ∷ line) ∷ lines

module _ (end : ℕ) where
  pub records-cons : (b : ℕ) (text : List ℕ)
      → records end (b ∷ text) ≡ with_byte (b == end) b (records end text)
  records-cons b [] = grind (arith, records-nil, records-step end (b ∷ []) (omega arith))
  records-cons b (c ∷ text) =
      grind (arith, records-step end (c ∷ text) (omega arith), records-step end (b ∷ c ∷ text) (omega arith))

  pub all-records : (text : List ℕ) → concat (records end text) ≡ text
  all-records [] = ap concat (records-nil end)
  all-records (b ∷ text) = grind (arith, records-cons, all-records text)

  -- the text is its first records, and what is left
  pub text-of-first : (text rest : List ℕ) (lines : List (List ℕ))
      → records end text ≡ lines ++ records end rest → text ≡ concat lines ++ rest
  text-of-first text rest lines e =
      rw (← all-records text, e, concat-append lines (records end rest), all-records rest) refl

with_byte-append : (ends : Bool) (b : ℕ) (lines more : List (List ℕ)) → 0 < length lines
    → with_byte ends b (lines ++ more) ≡ with_byte ends b lines ++ more
with_byte-append ends b lines more some = grind (arith, common_steps, some)

length-with_byte : (ends : Bool) (b : ℕ) (lines : List (List ℕ)) → 0 < length lines
    → length (with_byte ends b lines) ≡ cond ends 1 0 + length lines
length-with_byte ends b lines some = grind (arith, common_steps, some)

module _ (end : ℕ) where
  some-records : (a : List ℕ) → 0 < length (records end (a ++ end ∷ []))
  some-records a =
      let some : 0 < length (a ++ end ∷ []) = omega (arith, length-append a (end ∷ [])) in
      omega (arith, ap length (records-step end (a ++ end ∷ []) some))

  pub records-of-parts : (a b : List ℕ)
      → records end (a ++ end ∷ [] ++ b) ≡ records end (a ++ end ∷ []) ++ records end b
  records-of-parts [] b = grind (arith, records-cons, records-nil)
  records-of-parts (c ∷ a) b = grind (arith, records-cons, with_byte-append, some-records, records-of-parts a b)

  -- the records of whole ones stay what they are, whatever comes after them
  pub records-whole : (text rest : List ℕ) → EndsRecord end text
      → records end (text ++ rest) ≡ records end text ++ records end rest
  records-whole text rest ends = grind (arith, common_steps, records-nil, records-of-parts, ends)

  ends-counted : (a : List ℕ) → length (records end (a ++ end ∷ [])) ≡ count_by (is_byte end) (a ++ end ∷ [])
  ends-counted [] = grind (arith, common_steps, records-cons, records-nil)
  ends-counted (c ∷ a) =
      grind (arith, common_steps, records-cons, length-with_byte, some-records, ends-counted a)

  -- a text of whole records has as many ends as records
  pub records-counted : (text : List ℕ) → EndsRecord end text
      → length (records end text) ≡ count_by (is_byte end) text
  records-counted text ends = grind (arith, common_steps, records-nil, ends-counted, ends)

  -- a text up to its first end is a record
  pub first-is-record : (text : List ℕ) (k : ℕ) → k < length text
      → ((j : ℕ) → j < k → ¬ Passes (is_byte end) text j) → Passes (is_byte end) text k
      → IsRecord end (take (k + 1) text)
  first-is-record text k within before here = λ rest.
      let front = take (k + 1) text in
      let long : length front ≡ k + 1 = length-take-le (k + 1) text (omega arith) in
      let reads : (j : ℕ) → j < k + 1 → slice_index front j ≡ slice_index text j =
      λ j less. get_or-take (k + 1) text j 0 less in
      rw (take_all (k + 1) front (omega arith), drop_of_length-le front {i = k + 1} (omega arith)) at
      (records-at end front rest k (omega arith)
      (λ j less same. before j less (eq-eqb _ end (sym (reads j (omega arith)) ∙ same)))
      (reads k (omega arith) ∙ eqb-true _ end here))

  takes-whole : (before left : Option (List ℕ)) (line : List ℕ) → IsRecord end line → Consumes before left line
      → TakesRecord end before left line
  takes-whole before left line whole consumes = grind (arith, common_steps, whole)

  -- `fill_buf` showed these bytes, and the record at their start was consumed
  pub takes-shown : (before filled left : Option (List ℕ)) (limit : Option ℕ) (shown : List ℕ) (n : ℕ)
      → n ≤ length shown → IsRecord end (take n shown) → IfSome before (λ text. StartsWith text shown)
      → IfSome before (λ text. length shown ≡ 0 → text ≡ []) → Keeps before filled
      → IfSome before (λ _. IfSome limit (λ k. length shown ≤ k)) → DropsConsumable filled left limit n
      → TakesRecord end before left (take n shown)
  takes-shown before filled left limit shown n within whole front ends keeps fits drops =
      takes-whole before left (take n shown) whole
      (Consumes_shown before filled left limit shown n within front ends keeps fits drops).0

  -- `fill_buf` showed nothing
  pub none-shown : (before : Option (List ℕ)) (shown : List ℕ) → length shown ≡ 0
      → IfSome before (λ text. length shown ≡ 0 → text ≡ []) → HasNoRecord end before
  none-shown before shown none ends = grind (arith, common_steps, records-nil, none)

module _ (end : ℕ) (bytes : List ℕ) where
  -- no bytes that are wanted are in the text before an offset
  pub whole-front : (text : List ℕ) (before len count : ℕ) → HasBytes text → 0 < length bytes → len ≤ before
      → before ≤ length text → ((k : ℕ) → k < before → ¬ OccursAt text bytes k) → EndsRecord end (take len text)
      → count ≡ length (places (is_byte end) (take len text)) → HasWhole end bytes (take len text) count
  whole-front text before len count small some within low none ends counted =
      let front = take len text in
      let lacks : Lacks front bytes = λ k here.
      grind (arith, here.fits, none k, occurs-take bytes len text k here, length-take-le) in
      let none-in-lines : Lacks (concat (records end front)) bytes = rw (all-records end front) lacks in
      let small-front : HasBytes front = All-take (λ b. b < 256) len text small in
      search (rules, records-whole, length-places, records-counted, each-lacks, small-front, none-in-lines)

  -- the reader showed these bytes, and the first of them were consumed
  pub passes : (before left : Option (List ℕ)) (shown : List ℕ) (passed : Passed) → passed.len ≤ length shown
      → HasWhole end bytes (take passed.len shown) passed.count
      → Consumes before left (take passed.len shown) → PassesRecords end bytes before left passed
  passes before left shown passed within whole consumes =
      grind (arith, common_steps, all-records, whole, length-take-le, each-bytes)
