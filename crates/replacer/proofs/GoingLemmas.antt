-- A run over an input starts, goes on by a line, and ends. What is printed goes to a file through a buffer.
use Rattle.std.proofs.Common.{◌≡◌, ◌∙◌, ℕ, arith, List, ◌++◌, refl, ap, append_assoc, append-nil, Option, None, Some, IfSome, [], ◌==◌, if◌then◌else◌}
use Rattle.std.specs.Io.KnownBytes.{Appends, Keeps, append_known, prepend_known}
use Rattle.std.proofs.KnownBytes.{Appends-nil, Appends-trans, prepend_known-nil}
use Rattle.program_text.specs.Lines.{lines_of, HasNoRecord, TakesRecord, line_feed}
use Rattle.program_text.proofs.LineLemmas.{first-line, none-left}
use Rattle.nfa_compiler.specs.Patterns.{PatternHit}
use Rattle.replacer.specs.Fillings.{Groups}
use Rattle.replacer.specs.Printed.{HasWritten, feed_of, left_by, lines_shown, shown, without_feed, Prints}
use Rattle.replacer.specs.declared.action.Action.{Action}
use Rattle.replacer.specs.declared.command.Request.{Request}

module _ (groups : Groups) (hits : List ℕ → List PatternHit) (act : Action) (limit : Option ℕ) where
  pub going-init : (input out : Option (List ℕ)) → HasWritten groups hits act limit input input out out limit
  going-init input out = grind (arith, Appends-nil)

  -- one more line was read, and what is shown of it was written
  pub going-step : (before input after out-before out next : Option (List ℕ)) (left to : Option ℕ)
      (line here : List ℕ) → TakesRecord line_feed input after line
      → here ≡ shown groups act left (without_feed line) (feed_of line) (hits (without_feed line))
      → to ≡ left_by act left (hits (without_feed line)) → Appends out next here
      → HasWritten groups hits act limit before input out-before out left
      → HasWritten groups hits act limit before after out-before next to
  unfolding lines_shown
  going-step None input after out-before out next left to line here takes is later appends going = tt
  going-step (Some text) input after out-before out next left to line here takes is later appends going =
      let first = first-line input going.rest going.rest_is after line takes in
      record {
        rest = first.rest;
        rest_is = first.left_is;
        written = going.written ++ here;
        writes = Appends-trans out-before out next going.written here going.writes appends;
        printed_is = going.printed_is ∙ ap (λ ls. going.written ++ lines_shown groups hits act left ls) first.lines_are
            ∙ rw (← is, ← later, append_assoc) refl;
      }

  -- nothing was left to read
  pub going-end : (before input out-before out : Option (List ℕ)) (left : Option ℕ) → HasNoRecord line_feed input
      → HasWritten groups hits act limit before input out-before out left
      → IfSome before (λ text. Appends out-before out (lines_shown groups hits act limit (lines_of text)))
  unfolding lines_shown
  going-end None input out-before out left end going = tt
  going-end (Some text) input out-before out left end going =
      rw (going.printed_is, none-left input going.rest going.rest_is end, append-nil) going.writes

-- a buffer that holds nothing adds nothing
pub nothing-held : (known : Option (List ℕ)) (held : List ℕ) → held ≡ [] → Keeps known (append_known known held)
nothing-held known held none = grind (arith, append-nil)

-- a buffer into which nothing was read has left what its reader has left
pub all-left : (capacity : ℕ) (buffer : List ℕ) (inner given : Option (List ℕ)) → capacity ≡ 8192 → buffer ≡ []
    → inner ≡ given → (if capacity == 0 then None else prepend_known buffer inner) ≡ given
all-left capacity buffer inner given room none same = grind (arith, prepend_known-nil)

-- What the buffer and the file hold is that of the file before, and that of the file after.
module _ (file old new written : Option (List ℕ)) (before : Keeps file old) (after : Keeps new written) where
  through : (input : Option (List ℕ)) (text : List ℕ → List ℕ) → IfSome input (λ bytes. Appends old new (text bytes))
      → IfSome input (λ bytes. Appends file written (text bytes))
  through input text h = grind arith

  pub prints-through : (request : Request) (input : Option (List ℕ)) → Prints request input old new
      → Prints request input file written
  prints-through request input prints = λ re names means named.
      let it = prints re names means named in
      (it.0, it.1, it.2, λ hits are. through input _ (it.3 hits are))
