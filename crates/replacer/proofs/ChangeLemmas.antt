-- Changes are printed line by line.
use Rattle.std.proofs.Common.{◌≡◌, ℕ, ◌+◌, ◌≤◌, arith, List, ◌++◌, refl, sym, subst, append_assoc, append-nil, Option, None, Some, [], ◌∷◌}
use Rattle.std.specs.Io.KnownBytes.{Appends}
use Rattle.std.proofs.KnownBytes.{Appends-nil, Appends-trans}
use Rattle.program_text.specs.Lines.{lines_of, HasNoRecord, TakesRecord, line_feed}
use Rattle.program_text.proofs.LineLemmas.{first-line, none-left}
use Rattle.replacer.specs.Changes.{AreChanges, Becomes, HasChanged, HasChanges, change, changed_count}
use Rattle.replacer.specs.declared.changes.Style.{Style}
use Rattle.replacer.specs.declared.command.Request.{Request}

pub count-small : (line made : List ℕ) → changed_count line made ≤ 1
count-small line made = grind arith

module _ (request : Request) (style : Style) where
  -- the changes of no lines
  none-of : (number : ℕ) (all : List (List ℕ)) → all ≡ [] → AreChanges request style number all [] 0
  unfolding AreChanges
  none-of number all is = subst (λ ls. AreChanges request style number ls [] 0) (sym is) (refl, refl)

  -- the change of a line, and those of the lines after it
  first-of : (number : ℕ) (all rest : List (List ℕ)) (line made more : List ℕ) (others : ℕ)
      → all ≡ (line ∷ []) ++ rest → Becomes request line made → AreChanges request style (number + 1) rest more others
      → AreChanges request style number all (change style number line made ++ more) (changed_count line made + others)
  unfolding AreChanges
  first-of number all rest line made more others is becomes are =
      subst (λ ls. AreChanges request style number ls (change style number line made ++ more)
      (changed_count line made + others)) (sym is) (made, more, others, becomes, refl, refl, are)

  -- sums and lists in the other order of adding
  regroup : (lines : List (List ℕ)) (a b c : List ℕ) (x y z : ℕ)
      → AreChanges request style 1 lines (a ++ (b ++ c)) (x + (y + z))
      → AreChanges request style 1 lines ((a ++ b) ++ c) ((x + y) + z)
  regroup lines a b c x y z are =
      let sum : (x + y) + z ≡ x + (y + z) = omega arith in
      rw (append_assoc a b c, sum) are

  bare : (lines : List (List ℕ)) (a : List ℕ) (x : ℕ) → AreChanges request style 1 lines (a ++ []) (x + 0)
      → AreChanges request style 1 lines a x
  bare lines a x are =
      let sum : x + 0 ≡ x = omega arith in
      subst (λ n. AreChanges request style 1 lines a n) sum
      (subst (λ l. AreChanges request style 1 lines l (x + 0)) (append-nil a) are)

  pub changing-init : (input out : Option (List ℕ)) → HasChanged request style input input out out 1 0
  changing-init None out = tt
  changing-init (Some text) out = record {
    rest = text;
    rest_is = refl;
    written = [];
    writes = Appends-nil out;
    goes_on = λ more others are.
        let sum : 0 + others ≡ others = omega arith in
        subst (λ n. AreChanges request style 1 (lines_of text) ([] ++ more) n) (sym sum) are;
  }

  -- one more line was read, and its change was written
  pub changing-step : (before input after old out next : Option (List ℕ)) (number count : ℕ) (line made : List ℕ)
      → TakesRecord line_feed input after line → Becomes request line made
      → Appends out next (change style number line made)
      → HasChanged request style before input old out number count
      → HasChanged request style before after old next (number + 1) (count + changed_count line made)
  changing-step None input after old out next number count line made takes becomes appends going = tt
  changing-step (Some text) input after old out next number count line made takes becomes appends going =
      let first = first-line input going.rest going.rest_is after line takes in
      let here = change style number line made in
      let counted = changed_count line made in
      record {
        rest = first.rest;
        rest_is = first.left_is;
        written = going.written ++ here;
        writes = Appends-trans old out next going.written here going.writes appends;
        goes_on = λ more others are.
            let one = first-of number (lines_of going.rest) (lines_of first.rest) line made more others first.lines_are
            becomes are in
            regroup (lines_of text) going.written here more count counted others
            (going.goes_on (here ++ more) (counted + others) one);
      }

  -- nothing was left to read
  pub changing-end : (before input old out : Option (List ℕ)) (number count : ℕ) → HasNoRecord line_feed input
      → HasChanged request style before input old out number count
      → HasChanges request style before old out count
  changing-end None input old out number count end going = tt
  changing-end (Some text) input old out number count end going =
      let none = none-left input going.rest going.rest_is end in (
        going.written,
        going.writes,
        bare (lines_of text) going.written count
            (going.goes_on [] 0 (none-of number (lines_of going.rest) none)),
      )
