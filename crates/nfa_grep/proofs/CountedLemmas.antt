-- Counting goes on by lines, and ends where the limit is reached, or nothing is left to read.
use Rattle.bstr.specs.Records.{records}
use Rattle.nfa_paths.proofs.Common.{Appends-nil, Keeps, Keeps-refl, ◌≡◌, ◌∙◌, ℕ, ◌+◌, ◌-◌, ◌<◌, Bool, false, true, All, inl, inr, List, [], ◌∷◌, ◌++◌, length, refl, sym, ap, arith, append_assoc, append-nil, length-append, Option, None, Some, IfSome, IfSome_then, concat, cond, count_by, drop, ◌==◌, cases_Bool, ne_eqb, All-head, All-tail, sum_by-append, sum_by-cons, true≢false, zero-add}
use Rattle.std.proofs.lemmas.List.Folds.{concat-append}
use Rattle.std.specs.Io.KnownBytes.{Consumes}
use Rattle.program_text.specs.Lines.{HasNoRecord, IsRecord, PassesRecords, TakesRecord}
use Rattle.program_text.specs.declared.passed.Passed.{Passed}
use Rattle.program_text.proofs.LineLemmas.{text-of-first}
use Rattle.nfa_grep.specs.Counted.{AreCounted, Counted, CountsLines, HasCounted, IsCounted, IsCounting}
use Rattle.nfa_grep.specs.Going.{PrintsLines, PrintsReport}
use Rattle.nfa_grep.specs.Meant.{Options, Re}
use Rattle.grep_options.specs.declared.options.Report.TheVariants.{Lines, Count, With, Without, Nothing}
use Rattle.nfa_grep.specs.Printed.{Context, IsNeeded, Report, context_of, limit_of, fewer, is_selected, read, searched, selected_count, shows}
use Rattle.nfa_grep.proofs.NeededLemmas.{lacking}

module _ (options : Options) (res : List Re) where
  -- as many of the lines are selected
  abbrev chosen : List (List ℕ) → ℕ
  chosen lines = count_by (is_selected options res) lines

  chosen-cons : (line : List ℕ) (lines : List (List ℕ))
      → chosen (line ∷ lines) ≡ cond (is_selected options res line) 1 0 + chosen lines
  chosen-cons line lines = sum_by-cons (λ (l : List ℕ). cond (is_selected options res l) 1 0) line lines

  chosen-append : (here later : List (List ℕ)) → chosen (here ++ later) ≡ chosen here + chosen later
  chosen-append here later = sum_by-append (λ (l : List ℕ). cond (is_selected options res l) 1 0) here later

  fewer-than : (n m : ℕ) (b : Bool) → fewer n b - m ≡ n - (cond b 1 0 + m)
  fewer-than n m b = grind arith

  -- after lines that are all searched, the limit is smaller by those that are selected
  pub searched-after : (n : ℕ) (here later : List (List ℕ)) → searched options res n here ≡ here
      → searched options res n (here ++ later) ≡ here ++ searched options res (n - chosen here) later
  unfolding searched
  searched-after n [] later all = let none : n - chosen [] ≡ n = omega arith in rw none refl
  searched-after n (line ∷ here) later all =
      elim (cases_Bool (n == 0)) [
        | inl none ↦ absurd (omega (arith, ap length (rw none at all)))
        | inr some ↦
            let b = is_selected options res line in
            let rest : searched options res (fewer n b) here ≡ here = ap (drop 1) (rw some at all) in
            rw (some, searched-after (fewer n b) here later rest, fewer-than n (chosen here) b, ← chosen-cons line here)
            refl
      ]

  pub counted-none : (n : ℕ) → AreCounted options res n [] 0
  unfolding searched
  counted-none n = record { searched_are = refl; selected_is = refl }

  -- one more line
  pub counted-more : (n : ℕ) (here : List (List ℕ)) (line : List ℕ) (selected : ℕ)
      → AreCounted options res n here selected → selected < n
      → AreCounted options res n (here ++ line ∷ [])
      (cond (is_selected options res line) (selected + 1) selected)
  unfolding searched
  counted-more n here line selected counted less =
      let some : (n - chosen here == 0) ≡ false = ne_eqb (n - chosen here) 0
      (λ e. absurd (omega (arith, e, less, counted.selected_is))) in
      let b = is_selected options res line in
      record {
        searched_are = searched-after n here (line ∷ []) counted.searched_are ∙ rw some refl;
        selected_is = of b (chosen here) (chosen (line ∷ [])) counted.selected_is (chosen-cons line [])
            ∙ sym (chosen-append here (line ∷ []));
      }
    where
      of : (b : Bool) (m k : ℕ) → selected ≡ m → k ≡ cond b 1 0 + 0 → cond b (selected + 1) selected ≡ m + k
      of b m k e f = grind arith

  abbrev IsPassed : List ℕ → Type 0
  IsPassed line = is_selected options res line ≡ false

  -- lines of which none is selected
  pub counted-passed : (n : ℕ) (lines : List (List ℕ)) → 0 < n → All IsPassed lines → AreCounted options res n lines 0
  unfolding searched
  counted-passed n [] some none = record { searched_are = refl; selected_is = refl }
  counted-passed n (line ∷ lines) some none =
      let later = counted-passed n lines some (All-tail IsPassed line lines none) in
      let here : is_selected options res line ≡ false = All-head IsPassed line lines none in
      let left : (n == 0) ≡ false = ne_eqb n 0 (λ e. absurd (omega (arith, e))) in
      record {
        searched_are = rw (left, here) (ap (λ (l : List (List ℕ)). line ∷ l) later.searched_are);
        selected_is = later.selected_is ∙ sym (chosen-cons line lines ∙ rw here (zero-add (chosen lines)));
      }

  module _ (n : ℕ) where
    pub is-none : IsCounted options res n [] (record { selected = 0; lines = 0; len = 0 })
    is-none = record { lines = []; whole = λ rest. refl; count_is = refl; counted_are = counted-none n }

    -- the next line of the text, with its end, was searched
    pub is-more : (text line : List ℕ) (old new : Counted) → IsCounted options res n text old → old.selected < n
        → IsRecord options.end line → new.lines ≡ old.lines + 1
        → new.selected ≡ cond (is_selected options res line) (old.selected + 1) old.selected
        → IsCounted options res n (text ++ line) new
    is-more text line old new counted less whole lines-are selected-is = record {
      lines = counted.lines ++ line ∷ [];
      whole = λ rest. rw (append_assoc text line rest, counted.whole (line ++ rest), whole rest)
          (sym (append_assoc counted.lines (line ∷ []) (records options.end rest)));
      count_is = omega (arith, lines-are, counted.count_is, length-append counted.lines (line ∷ []));
      counted_are = rw selected-is (counted-more n counted.lines line old.selected counted.counted_are less);
    }

    -- the reader showed these bytes, and those that were counted were consumed
    pub has-shown : (before left : Option (List ℕ)) (text : List ℕ) (counted : Counted)
        → IsCounted options res n text counted → Consumes before left text
        → IfSome before (λ all. HasCounted options res n all left counted.selected)
    has-shown None left text counted is consumes = tt
    has-shown (Some all) None text counted is consumes = absurd consumes
    has-shown (Some all) (Some rest) text counted is consumes = record {
      lines = is.lines;
      first = record { rest = rest; left_is = refl; lines_are = rw consumes (is.whole rest) };
      counted_are = is.counted_are;
    }

    -- one line was read
    pub has-line : (before left : Option (List ℕ)) (line : List ℕ) → 0 < n → TakesRecord options.end before left line
        → IfSome before (λ all. HasCounted options res n all left (cond (is_selected options res line) 1 0))
    has-line before left line some takes =
        IfSome_then before takes (λ all first. record {
          lines = line ∷ [];
          first = first;
          counted_are = counted-more n [] line 0 (counted-none n) some;
        })

    -- lines without bytes that are needed were passed
    pub has-passed : (before left : Option (List ℕ)) (bytes : List ℕ) (passed : Passed) → 0 < n
        → IsNeeded options res bytes → PassesRecords options.end bytes before left passed
        → IfSome before (λ all. HasCounted options res n all left 0)
    has-passed before left bytes passed some needed passes =
        IfSome_then before passes (λ all there. record {
          lines = there.lines;
          first = there.first;
          counted_are = counted-passed n there.lines some
              (λ k d less. lacking options res bytes _ needed (there.bytes_are k d less) (there.without k d less));
        })

    pub counting-init : (input : Option (List ℕ))
        → IfSome input (λ text. IsCounting options res n text input 0)
    counting-init None = tt
    counting-init (Some text) =
        let whole : n - 0 ≡ n = omega arith in
        record {
          rest = text;
          rest_is = refl;
          taken = [];
          text_is = refl;
          count_is = rw whole (sym (zero-add (selected_count options res n text)));
          read_is = rw whole refl;
        }

    module _ {text : List ℕ} {input : Option (List ℕ)} {count : ℕ}
        (counting : IsCounting options res n text input count) where
      -- more lines were counted
      pub counting-on : (after : Option (List ℕ)) (selected : ℕ)
          → IfSome input (λ rest. HasCounted options res (n - count) rest after selected)
          → IsCounting options res n text after (count + selected)
      counting-on after selected has =
          let more = rw counting.rest_is at has in
          let here = more.lines in
          let rest = more.first.rest in
          let lines = records options.end rest in
          let same : n - count - chosen here ≡ n - (count + selected) =
          omega (arith, more.counted_are.selected_is) in
          let searched-is : searched options res (n - count) (records options.end counting.rest)
          ≡ here ++ searched options res (n - (count + selected)) lines =
          rw (more.first.lines_are, ← same)
          (searched-after (n - count) here lines more.counted_are.searched_are) in
          record {
            rest = rest;
            rest_is = more.first.left_is;
            taken = counting.taken ++ concat here;
            text_is = counting.text_is
                ∙ ap (λ (l : List ℕ). counting.taken ++ l)
                (text-of-first options.end counting.rest rest here more.first.lines_are)
                ∙ sym (append_assoc counting.taken (concat here) rest);
            count_is = counting.count_is
                ∙ ap (λ (l : List (List ℕ)). count + chosen l) searched-is
                ∙ omega (
                  arith,
                  more.counted_are.selected_is,
                  chosen-append here (searched options res (n - (count + selected)) lines),
                );
            read_is = counting.read_is
                ∙ ap (λ (l : List (List ℕ)). counting.taken ++ concat l) searched-is
                ∙ ap (λ (l : List ℕ). counting.taken ++ l)
                (concat-append here (searched options res (n - (count + selected)) lines))
                ∙ sym (append_assoc counting.taken (concat here) _);
          }

      -- no line is left to search
      ended : (after : Option (List ℕ)) → Keeps input after
          → searched options res (n - count) (records options.end counting.rest) ≡ []
          → CountsLines options res n (Some text) after count
      ended after keeps none = (
        omega (arith, counting.count_is, ap chosen none),
        record {
          rest = counting.rest;
          rest_is = kept after (rw counting.rest_is at keeps);
          text_is = rw (counting.read_is, none, append-nil counting.taken) counting.text_is;
        },
      )
        where
          kept : (b : Option (List ℕ)) → Keeps (Some counting.rest) b → b ≡ Some counting.rest
          kept None keeps = absurd keeps
          kept (Some xs) keeps = ap Some keeps

      -- nothing was left to read
      pub counting-end : (after : Option (List ℕ)) → HasNoRecord options.end input → Keeps input after
          → CountsLines options res n (Some text) after count
      unfolding searched
      counting-end after end keeps =
          let none = rw counting.rest_is at end in
          ended after keeps (rw none refl)

      -- the limit is reached
      pub counting-stop : count ≡ n → CountsLines options res n (Some text) input count
      unfolding searched
      counting-stop reached =
          let none : n - count ≡ 0 = omega (arith, reached) in
          ended input (Keeps-refl input) (rw none (searched-none (records options.end counting.rest)))
        where
          searched-none : (lines : List (List ℕ)) → searched options res 0 lines ≡ []
          searched-none [] = refl
          searched-none (line ∷ lines) = refl

-- what is read where no line is printed after a selected one
read-searched : (options : Options) (res : List Re) (context : Context) (n : ℕ) (lines : List (List ℕ))
    → context.after ≡ 0 → read options res context n 0 lines ≡ searched options res n lines
unfolding read searched
read-searched options res context n [] none = refl
read-searched options res context n (line ∷ lines) none =
    grind (arith, none, read-searched options res context (fewer n (is_selected options res line)) lines)

-- where no line is printed, to count is all
pub counts-report : (report : Report) (options : Options) (res : List Re) (name : List ℕ) (context : Context)
    (used : Bool) (limit : ℕ) (before left out : Option (List ℕ)) (count : ℕ) → shows report ≡ false
    → CountsLines options res (limit_of report limit) before left count
    → PrintsReport report options res name context used limit before left out out count
counts-report report options res name context used limit before left out count hidden counts =
    IfSome_then before counts (λ text counted. (
      rw hidden (Appends-nil out),
      counted.0,
      rw (read-searched options res (context_of report context) (limit_of report limit) (records options.end text)
          (none-after report hidden)) counted.1,
    ))
  where
    none-after : (r : Report) → shows r ≡ false → (context_of r context).after ≡ 0
    none-after Lines hidden = absurd (true≢false hidden)
    none-after Count hidden = refl
    none-after With hidden = refl
    none-after Without hidden = refl
    none-after Nothing hidden = refl

-- where lines are printed, they are printed as they are asked for
pub prints-report : (report : Report) (options : Options) (res : List Re) (name : List ℕ) (context : Context)
    (used : Bool) (limit : ℕ) (before left out after : Option (List ℕ)) (count : ℕ) → shows report ≡ true
    → PrintsLines options res name context used limit before left out after count
    → PrintsReport report options res name context used limit before left out after count
prints-report Lines options res name context used limit before left out after count shown prints = prints
prints-report Count options res name context used limit before left out after count shown prints =
    absurd (true≢false (sym shown))
prints-report With options res name context used limit before left out after count shown prints =
    absurd (true≢false (sym shown))
prints-report Without options res name context used limit before left out after count shown prints =
    absurd (true≢false (sym shown))
prints-report Nothing options res name context used limit before left out after count shown prints =
    absurd (true≢false (sym shown))
