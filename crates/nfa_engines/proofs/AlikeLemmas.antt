-- Assertions that read no more than the byte on each side of a position hold alike if these bytes are the same.
use Rattle.thompson_nfa.specs.declared.look.Look as looks
use Rattle.thompson_nfa.proofs.BetweenLemmas.{ascii_look, before-none, holds_between, holds-between}
use Rattle.nfa_paths.proofs.Common.{◌≡◌, ◌∙◌, ℕ, ◌+◌, ◌-◌, ◌≤◌, Bool, true, List, length, length-drop, sym, ap, arith, lt-ltb, Option, None, slice_get, cases_lt, length-take-le, slice_get_past, Search, look_holds, StartLF, EndLF, byte_before}
use Rattle.nfa_engines.specs.SpanLaws.{cut_out, AreBytesMoved, CutOutLinesHoldAlike, IsLineEdge, IsOfLines, IsOfWholeLines, IsSpanMoved, LinesHoldAlike, LookHoldsAlike, ReadsBytes, SameSidesHoldAlike}
use Rattle.nfa_engines.proofs.SpanLemmas.{cut-bytes, cut-moved, each-look}

-- an assertion of bytes is not one of a Unicode word
reads-ascii : (look : looks.Look) → ReadsBytes look → ascii_look look ≡ look
reads-ascii look r = grind arith

-- it holds exactly if it holds between the bytes on both sides
reads-between : (h : List ℕ) (at : ℕ) → at ≤ length h → (look : looks.Look) → ReadsBytes look
    → look_holds look h at ≡ holds_between look (byte_before h at) (slice_get h at)
reads-between h at within look reads =
    ap (λ l. look_holds l h at) (sym (reads-ascii look reads)) ∙ holds-between h at within look

-- What is read of the bytes on both sides of a position of the span is the same, if it is at the ends of the span.
module _ {k : ℕ} {x y : Search} (span : IsSpanMoved k x y) (bytes : AreBytesMoved k x y) {A : Type 0}
    (read : Option ℕ → A) where
  before-same : read (byte_before y.haystack y.start) ≡ read (byte_before x.haystack x.start)
      → (at : ℕ) → x.start ≤ at → at ≤ x.end
      → read (byte_before y.haystack (at + k)) ≡ read (byte_before x.haystack at)
  before-same first at past within = grind (arith, cases_lt, lt-ltb)

  after-same : read (slice_get y.haystack y.end) ≡ read (slice_get x.haystack x.end)
      → (at : ℕ) → x.start ≤ at → at ≤ x.end → read (slice_get y.haystack (at + k)) ≡ read (slice_get x.haystack at)
  after-same last at past within = grind (arith, cases_lt)

pub same-sides : SameSidesHoldAlike
same-sides nfa k x y each x_within y_within span bytes sides =
    each-look ReadsBytes (LookHoldsAlike k x y) nfa holds each
  where
    holds : (look : looks.Look) → ReadsBytes look → LookHoldsAlike k x y look
    holds look reads at past within =
        grind (
          arith,
          reads-between,
          before-same span bytes (λ o. o) sides.before,
          after-same span bytes (λ o. o) sides.after,
        )

-- whole lines

-- a line starts or ends next to this byte
abbrev is_edge : Option ℕ → Bool
is_edge byte = holds_between StartLF byte None

edge-true : (byte : Option ℕ) → IsLineEdge byte → is_edge byte ≡ true
edge-true byte h = grind arith

pub lines-alike : LinesHoldAlike
lines-alike nfa k x y each x_lines y_lines span bytes =
    each-look IsOfLines (LookHoldsAlike k x y) nfa holds each
  where
    x_inside : (at : ℕ) → at ≤ x.end → at ≤ length x.haystack
    x_inside at within = let fits : x.end ≤ length x.haystack = x_lines.within in omega arith

    y_inside : (at : ℕ) → at ≤ x.end → at + k ≤ length y.haystack
    y_inside at within =
        let end : y.end ≡ x.end + k = span.end in
        let fits : y.end ≤ length y.haystack = y_lines.within in
        omega arith

    holds : (look : looks.Look) → IsOfLines look → LookHoldsAlike k x y look
    holds StartLF of_lines at past within =
        holds-between y.haystack (at + k) (y_inside at within) StartLF
        ∙ before-same span bytes is_edge (edge-true _ y_lines.before ∙ sym (edge-true _ x_lines.before)) at past within
        ∙ sym (holds-between x.haystack at (x_inside at within) StartLF)
    holds EndLF of_lines at past within =
        holds-between y.haystack (at + k) (y_inside at within) EndLF
        ∙ after-same span bytes is_edge (edge-true _ y_lines.after ∙ sym (edge-true _ x_lines.after)) at past within
        ∙ sym (holds-between x.haystack at (x_inside at within) EndLF)
    holds _ of_lines at past within = absurd of_lines

-- what is cut out is of whole lines
cut-length : (x : Search) → x.end ≤ length x.haystack → length (cut_out x).haystack ≡ x.end - x.start
cut-length x within = grind (arith, length-drop, length-take-le)

cut-lines : (x : Search) → IsOfWholeLines x → IsOfWholeLines (cut_out x)
cut-lines x lines = grind (arith, cut-length, before-none, slice_get_past)

pub cut-alike : CutOutLinesHoldAlike
cut-alike nfa x each lines ordered =
    lines-alike nfa x.start (cut_out x) x each (cut-lines x lines) lines (cut-moved x ordered) (cut-bytes x)
