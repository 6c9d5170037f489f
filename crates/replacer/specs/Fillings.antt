-- What comes in place of the matches of patterns.
use Rattle.std.specs.Prelude.{ℕ, ◌≡◌, ◌<◌, ◌≤◌, List, [], ◌∷◌, ◌++◌, Option, None, Some, drop, length, map, slice_index_or, slice_range}
use Rattle.std.specs.List.{AllByRecursion}
use Rattle.regex_search_core.specs.Search.{whole}
use Rattle.nfa_engines.specs.Lists.{AreDisjoint}
use Rattle.nfa_engines.specs.Runs.{CapturesInside, match_in}
use Rattle.nfa_compiler.specs.Common.{Captured}
use Rattle.nfa_meta.specs.Gaps.{last_end}
use Rattle.nfa_meta.specs.Templates.{filled}
use Rattle.nfa_meta.specs.TemplateTexts.{AreParts, IsMistake}
use Rattle.nfa_meta.specs.declared.interpolate.TemplateError.TheVariants as template
use Rattle.replacer.specs.Cased.{after_escape, cased, casing_after, uncased}
use Rattle.replacer.specs.Stretches.{Stretched, opened}
use Rattle.replacer.specs.declared.case.CaseEscape.TheVariants.{End}
use Rattle.replacer.specs.declared.case.Casing.{Casing}
use Rattle.replacer.specs.declared.filling.BadStretch.{BadStretch}
use Rattle.replacer.specs.declared.filling.Filling.{Filling}
use Rattle.replacer.specs.declared.filling.Piece.{Piece}

-- the names of the explicit groups of each pattern
abbrev pub Groups : Type 0
Groups = List (List (Option (List ℕ)))

module _ (groups : Groups) (pattern : ℕ) where
  -- the piece is that of the stretch, for this pattern
  abbrev pub IsPiece : Stretched → Piece → Type 0
  IsPiece stretch piece = (piece.escape ≡ stretch.escape)
      × AreParts groups pattern stretch.text piece.template.parts.items (length stretch.text)

  -- this is wrong with the stretch, or allocation failed
  abbrev pub IsBadPiece : Stretched → BadStretch → Type 0
  IsBadPiece stretch bad = (bad.start ≡ stretch.start) × IsMistake groups pattern stretch.text bad.error

  -- allocation failed, or this is wrong with one of the stretches
  abbrev pub IsBadStretch : List Stretched → BadStretch → Type 0
  IsBadStretch stretches bad = (bad.error ≡ template.Memory → ⊥) → (at : ℕ) × (at < length stretches)
      × IsBadPiece (slice_index_or stretches at (opened End 0)) bad

-- the pieces of each filling
abbrev pub pieces_in : List Filling → List (List Piece)
pieces_in fillings = map (λ (filling : Filling). filling.pieces.items) fillings

module _ (haystack : List ℕ) where
  -- the texts of the pieces for these captures, each in its case
  abbrev pub written : Captured → Casing → List Piece → List ℕ
  written c casing [] = []
  written c casing (piece ∷ pieces) =
      cased (after_escape casing piece.escape) (filled haystack c piece.template.parts.items)
      ++ written c (casing_after (after_escape casing piece.escape)
      (filled haystack c piece.template.parts.items)) pieces

  -- the pieces of the pattern that matched, if it has some
  abbrev pub pieces_of : List (List Piece) → Option ℕ → List Piece
  pieces_of fillings None = []
  pieces_of fillings (Some pattern) = slice_index_or fillings pattern []

  -- what comes in place of the match of these captures
  abbrev pub put : List (List Piece) → Captured → List ℕ
  put fillings c = written c uncased (pieces_of fillings c.pattern)

  module _ (fillings : List (List Piece)) where
    -- what comes for one match: the text from an offset to it, and what comes in its place
    abbrev pub put_one : ℕ → Captured → List ℕ
    put_one from c = slice_range haystack from (match_in c).start ++ put fillings c

    -- the text from an offset on, with what comes in place of the match of each of these captures
    abbrev pub put_from : ℕ → List Captured → List ℕ
    put_from from [] = drop from haystack
    put_from from (c ∷ cs) = put_one from c ++ put_from (match_in c).end cs

    -- The matches of the first i of these captures were replaced, up to the offset: the output, and what comes for
    -- those that are left, is what comes for all.
    pub record HasPut (caught left : List Captured) (i from : ℕ) (output : List ℕ) : Type 0 where
      pub output_is : output ++ put_from from left ≡ put_from 0 caught
      pub first : i ≡ 0 → from ≡ 0
      pub within : from ≤ length haystack
      pub inside : AllByRecursion (CapturesInside (whole haystack)) left
      pub apart : AreDisjoint (whole haystack) (last_end i from) (map match_in left)
