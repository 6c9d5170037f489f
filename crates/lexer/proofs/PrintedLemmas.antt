-- That the lines of pieces are written one after the other.
use Rattle.std.proofs.Common.{◌≡◌, ◌∙◌, ℕ, ◌<◌, Bool, true, false, not, ◌&&◌, List, [], ◌∷◌, ◌++◌, length, arith, refl, sym, ap, append-nil, append_assoc, Option, None, Some, find, if◌then◌else◌, inl, inr, option_map, slice_range, take_while}
use Rattle.std.specs.Io.KnownBytes.{Appends}
use Rattle.std.specs.List.{list_all}
use Rattle.std.proofs.KnownBytes.{Appends-nil, Appends-trans}
use Rattle.std.proofs.Math.Bool.{and-true}
use Rattle.std.proofs.lemmas.Bool.{and_parts}
use Rattle.std.proofs.lemmas.List.{flat_map_more}
use Rattle.std.proofs.lemmas.List.Folds.{list_all-append}
use Rattle.std.proofs.lemmas.List.Sums.{take_while-cons}
use Rattle.regex_hir.specs.Re.{Re}
use Rattle.lexer.specs.Lexed.{TextPiece, is_token, lexed, piece_there, recovered, stuck_in, token_there}
use Rattle.lexer.specs.Printed.{HasPrinted, kind_line, outcome_at, piece_line, piece_lines, position_if, printed_tokens}
use Rattle.lexer.specs.declared.report.Outcome.TheVariants.{Errors, Whole}
use Rattle.std.proofs.lemmas.Bool.{cases_Bool}
use Rattle.lexer.specs.declared.position.Position.{Position}
use Rattle.lexer.specs.declared.report.Style.{Style}
use Rattle.lexer.specs.declared.rules.Rule.{Rule}
use Rattle.lexer.proofs.PieceLemmas.{piece-lies, pieces-more, pieces-none}

-- what comes first after elements that all pass
passing : {X : Type 0} (p : X → Bool) (xs ys : List X) → list_all p xs ≡ true
    → (take_while p (xs ++ ys) ≡ xs ++ take_while p ys)
    × (find (λ x. not (p x)) (xs ++ ys) ≡ find (λ x. not (p x)) ys)
passing p [] ys all = (refl, refl)
passing p (x ∷ xs) ys all =
    let parts = and_parts (p x) (list_all p xs) all in
    let rest = passing p xs ys parts.1 in
    (rw (take_while-cons p x (xs ++ ys), parts.0) (ap (λ l. x ∷ l) rest.0), rw parts.0 rest.1)

module _ (style : Style) (rules : List Rule) (res : List Re) (text : List ℕ) (before : Option (List ℕ)) where
  abbrev Printed : ℕ → Bool → Option (List ℕ) → Type 0
  Printed at whole out = HasPrinted res text style rules at whole before out

  pub printed-none : Printed 0 true before
  printed-none = record {
    pieces = [];
    left = length text;
    enough = omega arith;
    goes_on = refl;
    written = Appends-nil before;
    whole_is = refl;
  }

  -- the line of the next piece was written, with the position of this place
  pub printed-more : (at : ℕ) (whole : Bool) (p : TextPiece) (position : Option Position) (out next : Option (List ℕ))
      → at < length text → Printed at whole out → p ≡ piece_there style.prefer res text at
      → position ≡ position_if style.positions text at
      → Appends out next (kind_line style rules p.pattern (record { start = p.start; end = p.end }) position
      (slice_range text p.start p.end))
      → Printed p.end (whole && is_token p) next
  printed-more at whole p position out next less so-far is place writes =
      let there = piece_there style.prefer res text at in
      let lies = piece-lies style.prefer res text at less in
      let more = pieces-more style.prefer res text so-far.left at less so-far.enough in
      let here : position ≡ position_if style.positions text there.start = rw lies.start place in
      let line : Appends out next (piece_line style rules text there) = rw (is, here) at writes in
      rw is (record {
        pieces = so-far.pieces ++ there ∷ [];
        left = more.0;
        enough = more.1;
        goes_on = so-far.goes_on ∙ ap (λ ps. so-far.pieces ++ ps) more.2
            ∙ sym (append_assoc so-far.pieces (there ∷ []) _);
        written = rw (← flat_map_more (piece_line style rules text) [] so-far.pieces there)
            (Appends-trans before out next _ _ so-far.written line);
        whole_is = rw (list_all-append is_token so-far.pieces (there ∷ []), and-true, ← so-far.whole_is) refl;
      })

  -- the pieces are the whole text
  pub printed-all : (whole : Bool) (out : Option (List ℕ)) (so-far : Printed (length text) whole out)
      → recovered style.prefer res text ≡ so-far.pieces
  printed-all whole out so-far =
      so-far.goes_on ∙ ap (λ ps. so-far.pieces ++ ps) (pieces-none style.prefer res text so-far.left)
      ∙ append-nil so-far.pieces

  pub pieces-printed : (whole : Bool) (out : Option (List ℕ)) → Printed (length text) whole out
      → Appends before out (piece_lines style rules text (recovered style.prefer res text))
      × (whole ≡ list_all is_token (recovered style.prefer res text))
  pieces-printed whole out so-far = rw (printed-all whole out so-far) (so-far.written, so-far.whole_is)

  -- These pieces come after tokens that were printed. So they say where the tokens end.
  after : (at : ℕ) (out : Option (List ℕ)) (so-far : Printed at true out) (rest : List TextPiece)
      → recovered style.prefer res text ≡ so-far.pieces ++ rest
      → (lexed style.prefer res text ≡ so-far.pieces ++ take_while is_token rest)
      × (stuck_in style.prefer res text ≡ option_map (λ p. p.start) (find (λ p. not (is_token p)) rest))
  after at out so-far rest is =
      let split = passing is_token so-far.pieces rest (sym so-far.whole_is) in
      (rw is split.0, rw is (ap (option_map (λ p. p.start)) split.1))

  pub tokens-printed : (out : Option (List ℕ)) → Printed (length text) true out
      → Appends before out (printed_tokens style rules res text) × (stuck_in style.prefer res text ≡ None)
  tokens-printed out so-far =
      let end = after (length text) out so-far [] (printed-all true out so-far ∙ sym (append-nil so-far.pieces)) in
      (rw (end.0, append-nil) so-far.written, end.1)

  -- no token starts here
  pub stuck-printed : (at : ℕ) (out : Option (List ℕ)) → at < length text → Printed at true out
      → None ≡ token_there style.prefer res text at
      → Appends before out (printed_tokens style rules res text) × (stuck_in style.prefer res text ≡ Some at)
  stuck-printed at out less so-far none =
      let more = pieces-more style.prefer res text so-far.left at less so-far.enough in
      let end = after at out so-far _ (so-far.goes_on ∙ ap (λ ps. so-far.pieces ++ ps) (rw (← none) at more.2)) in
      (rw (end.0, append-nil) so-far.written, end.1)

-- how the pieces of a text end, if the lexer goes on after errors
pub pieces-outcome : (text : List ℕ) (ps : List TextPiece) (whole : Bool) → whole ≡ list_all is_token ps
    → (if whole then Whole else Errors)
    ≡ outcome_at true text (option_map (λ p. p.start) (find (λ p. not (is_token p)) ps))
pieces-outcome text [] whole is = rw is refl
pieces-outcome text (p ∷ ps) whole is = elim (cases_Bool (is_token p)) [
  | inl token ↦ rw token (pieces-outcome text ps whole (rw token at is))
  | inr stretch ↦ let no : whole ≡ false = rw stretch at is in rw (stretch, no) refl
]

pub ruleset writes = (Appends-nil, Appends-trans)
