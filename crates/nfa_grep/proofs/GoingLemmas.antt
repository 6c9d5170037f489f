-- A search of an input starts, goes on by a line, and ends.
use Rattle.bstr.specs.Records.{records}
use Rattle.nfa_paths.proofs.Common.{Appends, Keeps, Appends-nil, Appends-trans, Keeps-refl, ◌≡◌, ◌∙◌, ℕ, ◌+◌, ◌-◌, ◌<◌, ◌≤◌, Bool, true, false, All, inl, inr, List, [], ◌∷◌, ◌++◌, length, refl, sym, ap, subst, arith, append_assoc, append-nil, zero-add, Option, None, Some, IfSome, cond, count_by, if◌then◌else◌, not, ◌==◌, ◌&&◌, ◌⊎◌, nat_lt, concat, and_parts, cases_Bool, cases_lt, eq-eqb, eqb-true, le-ltb, lt-ltb, ltb-false, ne_eqb, not-true, length-append, All-cons, All-head, All-nil, All-tail, sum_by-cons}
use Rattle.program_text.specs.Lines.{AreFirstRecords, HasNoRecord, TakesRecord}
use Rattle.program_text.proofs.LineLemmas.{text-of-first}
use Rattle.nfa_grep.specs.Meant.{Options, Re}
use Rattle.nfa_grep.specs.Going.{Groups, HasPassed, IsGoing, IsInOrder, LineStart, Place, PrintsLines, Taken, TakesNext, kept_items, kept_texts, printed_later}
use Rattle.nfa_grep.specs.Printed.{Context, Item, fewer, grouped, has_selected, is_picked, is_selected, item_of, items, left_after, read, searched, selected_count}
use Rattle.nfa_grep.proofs.GroupedLemmas.{kept-none, none-printed}

-- what was left to write, and what was written of it
three : (before here later all rest : List ℕ) → all ≡ before ++ rest → rest ≡ here ++ later
    → all ≡ (before ++ here) ++ later
three before here later all rest a b = rw (a, b) (sym (append_assoc before here later))

-- no line is left to select exactly if the limit is reached
none-left : (count limit : ℕ) → ((limit - count) == 0) ≡ not (nat_lt count limit)
none-left count limit = elim (cases_lt count limit) [
  | inl less ↦ rw (lt-ltb count limit less) (ne_eqb (limit - count) 0 (λ e. absurd (omega (arith, less, e))))
  | inr reached ↦ rw (le-ltb count limit reached) (eq-eqb (limit - count) 0 (omega (arith, reached)))
]

-- nothing more is printed at the end of the input
none-later : (groups : Groups) → IsInOrder groups → printed_later groups [] ≡ []
unfolding grouped
none-later groups order = of groups.left groups.used groups.gap (kept_texts groups) order.printing
  where
    of : (left : ℕ) (used gap : Bool) (texts : List (List ℕ))
        → (left ≡ 0) ⊎ ((texts ≡ []) × (used ≡ true) × (gap ≡ false))
        → grouped groups.context used gap left (kept_items texts ++ []) ≡ []
    of left used gap texts (inl none) =
        rw none (none-printed groups.context used gap (kept_items texts ++ []) (kept-none texts [] refl))
    of left used gap texts (inr here) = rw (here.0) refl

module _ (options : Options) (res : List Re) (name : List ℕ) (context : Context) where
  -- what is left to print, to select and to read of these lines
  abbrev left_items : ℕ → ℕ → ℕ → List (List ℕ) → List Item
  left_items n number offset lines = items options res name n number offset lines

  abbrev left_count : ℕ → List (List ℕ) → ℕ
  left_count n lines = count_by (is_selected options res) (searched options res n lines)

  abbrev left_read : ℕ → ℕ → List (List ℕ) → List ℕ
  left_read n left lines = concat (read options res context n left lines)

  -- no line is selected after the limit
  items-none : (number offset : ℕ) (lines : List (List ℕ))
      → has_selected (left_items 0 number offset lines) ≡ false
  unfolding items
  items-none number offset [] = refl
  items-none number offset (line ∷ lines) = items-none (number + 1) (offset + length line) lines

  read-none : (lines : List (List ℕ)) → left_read 0 0 lines ≡ []
  unfolding read
  read-none [] = refl
  read-none (line ∷ lines) = refl

  count-none : (n : ℕ) (lines : List (List ℕ)) → (n == 0) ≡ true → left_count n lines ≡ 0
  unfolding searched
  count-none n [] none = refl
  count-none n (line ∷ lines) none = rw none refl

  -- These lines are `own` as items, and `count` of them are selected. After them these numbers are left.
  record Goes (n left number offset : ℕ) (here lines : List (List ℕ)) (own : List Item)
      (count next-n next-left next-number next-offset : ℕ) : Type 0 where
    items_are : left_items n number offset (here ++ lines)
        ≡ own ++ left_items next-n next-number next-offset lines
    count_is : left_count n (here ++ lines) ≡ count + left_count next-n lines
    read_is : left_read n left (here ++ lines) ≡ concat here ++ left_read next-n next-left lines

  goes-line : (n left number offset : ℕ) (line : List ℕ) (lines : List (List ℕ)) (b : Bool)
      → is_picked options res n line ≡ b → ((n == 0) && (left == 0)) ≡ false
      → Goes n left number offset (line ∷ []) lines (item_of options res name number offset b line ∷ [])
      (cond b 1 0) (fewer n b) (left_after context left b) (number + 1) (offset + length line)
  unfolding items searched read
  goes-line n left number offset line lines b picked more =
      rw (← picked) (record {
        items_are = refl;
        count_is = elim (cases_Bool (n == 0)) [
          | inl none ↦ rw (none, count-none n lines none) refl
          | inr some ↦
              rw some (sum_by-cons (λ (l : List ℕ). cond (is_selected options res l) 1 0) line
              (searched options res (fewer n (is_selected options res line)) lines))
        ];
        read_is = rw (more, append-nil line) refl;
      })

  -- These lines are passed: no item is selected of them, the limit stays, and they are read.
  record ArePassed (n left number offset : ℕ) (passed lines : List (List ℕ)) (next-number next-offset : ℕ) : Type 0
    where
      own : List Item
      as_many : length passed ≡ length own
      unselected : All (λ item. item.selected ≡ false) own
      goes : Goes n left number offset passed lines own 0 n left next-number next-offset

  abbrev IsPassed : List ℕ → Type 0
  IsPassed line = is_selected options res line ≡ false

  passed-over : (n left number offset : ℕ) (passed lines : List (List ℕ)) (next-number next-offset : ℕ)
      → ((n == 0) && (left == 0)) ≡ false → (0 < length passed → left ≡ 0) → All IsPassed passed
      → next-number ≡ number + length passed → next-offset ≡ offset + length (concat passed)
      → ArePassed n left number offset passed lines next-number next-offset
  passed-over n left number offset [] lines next-number next-offset more far none number-is offset-is =
      let same-number : next-number ≡ number = omega (arith, number-is) in
      let same-offset : next-offset ≡ offset = omega (arith, offset-is) in
      record {
        own = [];
        as_many = refl;
        unselected = All-nil (λ (item : Item). item.selected ≡ false);
        goes = rw (same-number, same-offset) (record {
          items_are = refl;
          count_is = sym (zero-add (left_count n lines));
          read_is = refl;
        });
      }
  passed-over n left number offset (line ∷ passed) lines next-number next-offset more far none number-is offset-is =
      let left-is : left ≡ 0 = far (omega arith) in
      let same : left - 1 ≡ left = omega arith in
      let picked : is_picked options res n line ≡ false = rw (All-head IsPassed line passed none) (of (n == 0)) in
      let item = item_of options res name number offset false line in
      let first = goes-line n left number offset line (passed ++ lines) false picked more in
      let later = passed-over n left (number + 1) (offset + length line) passed lines next-number next-offset more
      (λ _. left-is) (All-tail IsPassed line passed none) (omega (arith, number-is))
      (omega (arith, offset-is, length-append line (concat passed))) in
      record {
        own = item ∷ later.own;
        as_many = omega (arith, later.as_many);
        unselected = All-cons (λ (item : Item). item.selected ≡ false) item later.own refl later.unselected;
        goes = record {
          items_are = first.items_are ∙ ap (λ (l : List Item). item ∷ l) later.goes.items_are;
          count_is = first.count_is ∙ zero-add (left_count n (passed ++ lines)) ∙ later.goes.count_is;
          read_is = rw (first.read_is, same, later.goes.read_is, append-nil line)
              (sym (append_assoc line (concat passed) (left_read n left lines)));
        };
      }
    where
      of : (b : Bool) → (if b then false else false) ≡ false
      of b = grind arith

module _ (options : Options) (res : List Re) (name : List ℕ) (context : Context) (used : Bool)
    (limit : ℕ) where
  pub going-init : (input out : Option (List ℕ)) (groups : Groups)
      → ((later : List Item) → printed_later groups later ≡ grouped context used true 0 later) → groups.left ≡ 0
      → IfSome input (λ text. IsGoing options res name context used limit text input out out 1 0 0 groups)
  going-init None out groups is none = tt
  going-init (Some text) out groups is none =
      let whole : limit - 0 ≡ limit = omega arith in
      record {
        rest = text;
        rest_is = refl;
        written = [];
        writes = Appends-nil out;
        taken = [];
        text_is = refl;
        printed_is = rw whole (sym (is _));
        count_is = rw whole (sym (zero-add _));
        read_is = rw (whole, none) refl;
      }

-- the bytes are known, and the lines so far were printed
module _ {options : Options} {res : List Re} {name : List ℕ} {context : Context} {used : Bool}
    {limit : ℕ} {text : List ℕ} {input out-before out : Option (List ℕ)} {number offset count : ℕ} {old : Groups}
    (going : IsGoing options res name context used limit text input out-before out number offset count old)
  where
    -- more lines were read, and what is printed then was written
    going-on : (after next : Option (List ℕ)) (here : List (List ℕ)) (own : List Item) (written : List ℕ) (new : Groups)
        (next-number next-offset next-count selected : ℕ) (first : AreFirstRecords options.end going.rest after here)
        → Goes options res name context (limit - count) old.left number offset here
        (records options.end first.rest) own selected (limit - next-count) new.left next-number next-offset
        → next-count ≡ count + selected → Appends out next written
        → ((later : List Item) → printed_later old (own ++ later) ≡ written ++ printed_later new later)
        → IsGoing options res name context used limit text after out-before next next-number next-offset
        next-count new
    going-on after next here own written new next-number next-offset next-count selected first goes counted appends
        prints =
        record {
          rest = first.rest;
          rest_is = first.left_is;
          written = going.written ++ written;
          writes = Appends-trans out-before out next going.written written going.writes appends;
          taken = going.taken ++ concat here;
          text_is = three going.taken (concat here) first.rest text going.rest going.text_is
              (text-of-first options.end going.rest first.rest here first.lines_are);
          printed_is = three going.written written _ _ _ going.printed_is
              (rw (first.lines_are, goes.items_are) (prints _));
          count_is = rw (going.count_is, first.lines_are, goes.count_is) (omega (arith, counted));
          read_is = three going.taken (concat here) _ _ _ going.read_is (rw (first.lines_are, goes.read_is) refl);
        }

    -- one more line was read, and what is printed then was written
    going-step : (after middle next : Option (List ℕ)) (line ahead here : List ℕ) (new : Groups) (b : Bool)
        → (not (nat_lt count limit) && (old.left == 0)) ≡ false
        → b ≡ (if nat_lt count limit then is_selected options res line else false)
        → TakesRecord options.end input after line → Appends out middle ahead → Appends middle next here
        → ((later : List Item) → printed_later old (item_of options res name number offset b line ∷ later)
        ≡ (ahead ++ here) ++ printed_later new later)
        → new.left ≡ left_after context old.left b
        → IsGoing options res name context used limit text after out-before next (number + 1)
        (offset + length line) (cond b (count + 1) count) new
    going-step after middle next line ahead here new b more selected takes first-part second-part prints left-is =
        let first = rw going.rest_is at takes in
        let n = limit - count in
        let item = item_of options res name number offset b line in
        let picked : is_picked options res n line ≡ b =
        rw (none-left count limit, selected) (of (nat_lt count limit) (is_selected options res line)) in
        let fewer-is : fewer n b ≡ limit - (cond b (count + 1) count) = rest-of b in
        let more-here : ((n == 0) && (old.left == 0)) ≡ false = rw (none-left count limit) more in
        going-on after next (line ∷ []) (item ∷ []) (ahead ++ here) new (number + 1) (offset + length line)
        (cond b (count + 1) count) (cond b 1 0) first
        (rw (← fewer-is, left-is) (goes-line options res name context n old.left number offset line
        (records options.end first.rest) b picked more-here))
        (added b) (Appends-trans out middle next ahead here first-part second-part) prints
      where
        of : (searched selected : Bool) → (if not searched then false else selected)
            ≡ (if searched then selected else false)
        of searched selected = grind arith

        rest-of : (b : Bool) → fewer (limit - count) b ≡ limit - (cond b (count + 1) count)
        rest-of b = grind arith

        added : (b : Bool) → cond b (count + 1) count ≡ count + cond b 1 0
        added b = grind arith

    -- the next line was taken, and what is printed then was written
    pub going-take : (after middle last : Option (List ℕ)) (place : Place) (new : Groups) (taken : Taken)
        → place.name.now ≡ name → place.number ≡ number → place.offset ≡ offset
        → old.context ≡ context → (not (nat_lt count limit) && (old.left == 0)) ≡ false
        → TakesNext options res place (nat_lt count limit) old new input after (Some taken)
        → Appends out middle new.ahead.items → Appends middle last new.text.items
        → IsGoing options res name context used limit text after out-before last taken.next.number
        taken.next.offset (cond taken.selected (count + 1) count) new
    going-take after middle last place new taken name-is number-is offset-is context-is more (line, is, takes)
        first-part second-part =
        let b : Bool = taken.selected in
        let number-next : taken.next.number ≡ number + 1 = omega (arith, takes.number_is, number-is) in
        let offset-next : taken.next.offset ≡ offset + length line = omega (arith, takes.offset_is, offset-is) in
        let prints : (later : List Item) → printed_later old (item_of options res name number offset b line
        ∷ later) ≡ (new.ahead.items ++ new.text.items) ++ printed_later new later =
        rw (name-is, number-is, offset-is) at takes.printed_is in
        let left-is : new.left ≡ left_after context old.left b = rw context-is at takes.left_is in
        rw (number-next, offset-next) (going-step after middle last line new.ahead.items new.text.items new b more
        takes.selected_is is first-part second-part prints left-is)

    -- lines were passed, and nothing is printed of them
    pub going-pass : (after : Option (List ℕ)) (at next : LineStart) (new : Groups) → number ≡ at.number
        → offset ≡ at.offset → (not (nat_lt count limit) && (old.left == 0)) ≡ false → new.left ≡ old.left
        → IfSome input (λ text. HasPassed options res text after at next old new)
        → IsGoing options res name context used limit text after out-before out next.number next.offset count new
    going-pass after at next new number-is offset-is more left-is passes =
        let passed =
        subst (λ (o : Option (List ℕ)). IfSome o (λ text. HasPassed options res text after at next old new))
        going.rest_is passes in
        let more-here : (((limit - count) == 0) && (old.left == 0)) ≡ false = rw (none-left count limit) more in
        let lines = records options.end passed.first.rest in
        let over = passed-over options res name context (limit - count) old.left number offset passed.lines lines
        next.number next.offset more-here passed.none_left passed.unselected
        (omega (arith, number-is, passed.number_is)) (omega (arith, offset-is, passed.offset_is)) in
        let goes = subst (λ (left : ℕ). Goes options res name context (limit - count) old.left number offset
        passed.lines lines over.own 0 (limit - count) left next.number next.offset) (sym left-is) over.goes in
        going-on after out passed.lines over.own [] new next.number next.offset count 0 passed.first goes (omega arith)
        (Appends-nil out) (passed.printed_is over.own over.as_many over.unselected)

    -- no line is left to read
    done : (after : Option (List ℕ)) → Keeps input after
        → printed_later old (items options res name (limit - count) number offset
        (records options.end going.rest)) ≡ []
        → selected_count options res (limit - count) going.rest ≡ 0
        → concat (read options res context (limit - count) old.left (records options.end going.rest)) ≡ []
        → PrintsLines options res name context used limit (Some text) after out-before out count
    done after keeps no-items no-count no-lines = (
      rw (going.printed_is, no-items, append-nil going.written) going.writes,
      omega (arith, going.count_is, no-count),
      record {
        rest = going.rest;
        rest_is = kept after (rw going.rest_is at keeps);
        text_is = rw (going.read_is, no-lines, append-nil going.taken) going.text_is;
      },
    )
      where
        kept : (b : Option (List ℕ)) → Keeps (Some going.rest) b → b ≡ Some going.rest
        kept None keeps = absurd keeps
        kept (Some xs) keeps = ap Some keeps

    -- nothing was left to read
    pub going-end : (after : Option (List ℕ)) → HasNoRecord options.end input → Keeps input after → IsInOrder old
        → PrintsLines options res name context used limit (Some text) after out-before out count
    unfolding items searched read
    going-end after end keeps order =
        let none = rw going.rest_is at end in
        done after keeps (rw none (none-later old order)) (rw none refl) (rw none refl)

    -- the limit is reached, and no line is left to print
    pub going-stop : (not (nat_lt count limit) && (old.left == 0)) ≡ true
        → PrintsLines options res name context used limit (Some text) input out-before out count
    going-stop over =
        let parts = and_parts (not (nat_lt count limit)) (old.left == 0) over in
        let reached : limit ≤ count = ltb-false count limit (not-true (nat_lt count limit) parts.0) in
        let left-is : old.left ≡ 0 = eqb-true old.left 0 parts.1 in
        let none : limit - count ≡ 0 = omega (arith, reached) in
        let lines = records options.end going.rest in
        let none-selected = kept-none (kept_texts old) (items options res name 0 number offset lines)
        (items-none options res name context number offset lines) in
        done input (Keeps-refl input) (rw (none, left-is) (none-printed old.context old.used old.gap _ none-selected))
        (rw none (count-none options res name context 0 lines refl))
        (rw (none, left-is) (read-none options res name context lines))
