-- What is printed of matches and of numbers, and colours around it.
use Rattle.nfa_paths.proofs.Common.{drop_split, ◌≡◌, ◌∙◌, ℕ, ◌+◌, ◌-◌, ◌<◌, false, List, [], ◌∷◌, ◌++◌, append_assoc, ap, arith, cases_Bool, common_steps, drop, get_or, inl, inr, length, map, refl, subst, sym, IfSome, Option, None, Some, ◌==◌, not, slice_range, drop_more, take_all, Found, found_of, whole, Match, true, decimal, join_with_byte, length-map, map-append, ◌≤◌, append-nil, All-drop, All-head, All-tail, All-take}
use Rattle.grep_options.specs.Colours.{AreCodes, is_code, palette_of}
use Rattle.nfa_search_base.specs.Common.{AreDisjoint, IsInside}
use Rattle.program_text.specs.Lines.{with_end}
use Rattle.nfa_grep.specs.Meant.{span_of, Options, Re}
use Rattle.nfa_grep.specs.Printed.{coloured_found, line_colour, match_colour, painted_line, text_of, colon, comma, is_selected, shown_if_selected, shown_matches, shown_whole}
use Rattle.nfa_grep.specs.Painted.{Colours, HasPainted, clear, code_of, end_of, in_colours, last_part, matched_from, painted_text, parts_from, printed_to, escape, start_of, HasNoSequence, outside, uncoloured}
use Rattle.nfa_grep.proofs.MeantLemmas.{all-none}
use Rattle.nfa_grep.specs.declared.paint.Colour.{Colour}
use Rattle.nfa_grep.specs.declared.paint.Colour.TheVariants as paint

module _ (colours : Colours) (line hit : Colour) (text : List ℕ) where
  -- the text of the other parts
  abbrev rest_of : ℕ → List Found → List ℕ
  rest_of from ms = in_colours (parts_from colours line hit text from ms)

  step : (from : ℕ) (m : Found) (ms : List Found)
      → rest_of from (m ∷ ms) ≡ matched_from colours line hit text from m ++ rest_of (printed_to from m) ms
  step from m ms = elim (cases_Bool (m.start == m.end)) [
    | inl none ↦ rw none refl
    | inr some ↦ rw some (grind (arith, common_steps))
  ]

  -- where the other matches are, if the last one that is not empty ends there or before
  begins : (from : ℕ) (m : Found) (ms : List Found) (last : Option ℕ) → IfSome last (λ end. from ≤ end)
      → (last ≡ None → from ≡ 0) → AreDisjoint (whole text) last (m ∷ ms) → from ≤ m.start
  begins from m ms None after first apart = omega (arith, first refl)
  begins from m ms (Some end) after first apart = omega (arith, after, (apart.1 end refl).0)

  printed-within : (from : ℕ) (m : Found) → from ≤ m.start → m.start ≤ m.end → printed_to from m ≤ m.end
  printed-within from m before ordered = grind (arith, before, ordered)

  printed-inside : (from : ℕ) (m : Found) → from ≤ length text → m.end ≤ length text
      → printed_to from m ≤ length text
  printed-inside from m before ordered = grind (arith, before, ordered)

  module _ (ms : List Match) (i : ℕ) (found : Match) (from : ℕ) (before out : List ℕ) (less : i < length ms)
      (item : found ≡ get_or ms i found) (printed : HasPainted colours line hit text ms i from before out) where
    abbrev others : List Found
    others = map found_of (drop (i + 1) ms)

    list-is : map found_of (drop i ms) ≡ found_of found ∷ others
    list-is = ap (map found_of) (drop_more ms i found less ∙ ap (λ (x : Match). x ∷ drop (i + 1) ms) (sym item))

    apart-here : AreDisjoint (whole text) printed.last (found_of found ∷ others)
    apart-here = subst (λ (l : List Found). AreDisjoint (whole text) printed.last l) list-is printed.apart

    -- the next match starts after what was printed
    pub starts-after : from ≤ (found_of found).start
    starts-after = begins from (found_of found) others printed.last printed.after_last printed.first apart-here

    pub is-inside : IsInside (whole text) (found_of found)
    is-inside = apart-here.0

    -- one more match was printed
    pub painted-more : (next : ℕ) (after : List ℕ)
        → after ≡ out ++ matched_from colours line hit text from (found_of found)
        → next ≡ printed_to from (found_of found) → HasPainted colours line hit text ms (i + 1) next before after
    painted-more next after is next-is =
        let m = found_of found in
        let here = matched_from colours line hit text from m in
        let to = printed_to from m in
        subst (λ (n : ℕ). HasPainted colours line hit text ms (i + 1) n before after) (sym next-is) (record {
          out_is = ap (λ (l : List ℕ). l ++ rest_of to others) is ∙ append_assoc out here (rest_of to others)
              ∙ ap (λ (l : List ℕ). out ++ l) (sym (step from m others))
              ∙ ap (λ (l : List Found). out ++ rest_of from l) (sym list-is) ∙ printed.out_is;
          within = printed-inside from m printed.within apart-here.0.to;
          last = Some m.end;
          after_last = printed-within from m starts-after apart-here.0.ordered;
          first = λ e. absurd (cc);
          apart = apart-here.2;
        })

  -- the parts of a text do not depend on the numbers of the patterns that match
  parts-same : (from : ℕ) (ms ns : List Found) → map span_of ms ≡ map span_of ns
      → parts_from colours line hit text from ms ≡ parts_from colours line hit text from ns
  parts-same from [] [] same = refl
  parts-same from [] (n ∷ ns) same = absurd (cc)
  parts-same from (m ∷ ms) [] same = absurd (cc)
  parts-same from (m ∷ ms) (n ∷ ns) same =
      grind (arith, same, parts-same n.end ms ns, parts-same from ms ns)

-- a line was printed in colours
pub line-shown : (options : Options) (colours : Colours) (end : ℕ) (res : List Re) (line text : List ℕ)
    (list : List Found) (out middle after : List ℕ) → text ≡ text_of options line
    → map span_of list ≡ map span_of (coloured_found options colours end res (text_of options line))
    → middle ≡ out ++ painted_text colours (line_colour options colours end) (match_colour end) text list
    → after ≡ middle ++ with_end options.end (slice_range line (length text) (length line))
    → after ≡ out ++ painted_line options colours end res line
unfolding painted_line
line-shown options colours end res line text list out middle after text-is list-is middle-is is =
    let parts = parts-same colours (line_colour options colours end) (match_colour end) text 0 list
    (coloured_found options colours end res (text_of options line)) list-is in
    grind (arith, common_steps, parts, text-is, middle-is, is, take_all)

-- the same in these colours, by these options
pub line-shown-by : (options used : Options) (colours : Colours) (own hit : Colour) (end : ℕ) (res : List Re)
    (line text : List ℕ) (list : List Found) (out middle after : List ℕ) → used ≡ options
    → own ≡ line_colour used colours end → hit ≡ match_colour end → text ≡ text_of options line
    → map span_of list ≡ map span_of (coloured_found options colours end res (text_of options line))
    → middle ≡ out ++ painted_text colours own hit text list
    → after ≡ middle ++ with_end used.end (slice_range line (length text) (length line))
    → after ≡ out ++ painted_line options colours end res line
line-shown-by options used colours own hit end res line text list out middle after same own-is hit-is text-is list-is
    middle-is is =
    let own-here : own ≡ line_colour options colours end =
    own-is ∙ ap (λ (o : Options). line_colour o colours end) same in
    let middle-here : middle
    ≡ out ++ painted_text colours (line_colour options colours end) (match_colour end) text list =
    middle-is ∙ ap (λ (c : Colour). out ++ painted_text colours c hit text list) own-here
    ∙ ap (λ (c : Colour). out ++ painted_text colours (line_colour options colours end) c text list) hit-is in
    let is-here : after ≡ middle ++ with_end options.end (slice_range line (length text) (length line)) =
    is ∙ ap (λ (o : Options). middle ++ with_end o.end (slice_range line (length text) (length line))) same in
    line-shown options colours end res line text list out middle after text-is list-is middle-here is-here

-- with `only`, a line without matches gives nothing, as if it had been selected
pub shown-matches : (options : Options) (res : List Re) (name : List ℕ) (number offset : ℕ) (line : List ℕ)
    → options.only ≡ true → options.inverted ≡ false
    → shown_if_selected options res name number offset line
    ≡ shown_matches options colon res name number offset line
shown-matches options res name number offset line only straight =
    grind (arith, all-none res (text_of options line))

-- a whole line that is selected
pub shown-whole : (options : Options) (res : List Re) (name : List ℕ) (number offset : ℕ) (line : List ℕ)
    → options.only ≡ false → is_selected options res line ≡ true
    → shown_if_selected options res name number offset line
    ≡ shown_whole options colon res name number offset line
shown-whole options res name number offset line only selected = grind (arith, selected)

-- one more piece
pub join_more : (c : ℕ) (xs : List (List ℕ)) (x : List ℕ) → 0 < length xs
    → join_with_byte c (xs ++ x ∷ []) ≡ join_with_byte c xs ++ (c ∷ x)
join_more c [] x some = absurd (omega arith)
join_more c (y ∷ []) x some = refl
join_more c (y ∷ z ∷ zs) x some = grind (arith, common_steps, join_more c (z ∷ zs) x)

-- what was appended before, then this byte and this text
pub appended-more : (before joined text out mid end : List ℕ) (c : ℕ) → out ≡ before ++ joined → mid ≡ out ++ c ∷ []
    → end ≡ mid ++ text → end ≡ before ++ (joined ++ (c ∷ text))
appended-more before joined text out mid end c a b e = grind (arith, common_steps)

-- these numbers, and one more
module _ {A : Type 0} (number : A → ℕ) (xs : List A) (x : A) where
  pub numbers-first : xs ≡ [] → join_with_byte comma (map decimal (map number (xs ++ x ∷ []))) ≡ decimal (number x)
  numbers-first none = grind (arith, common_steps)

  pub numbers-more : 0 < length xs
      → join_with_byte comma (map decimal (map number (xs ++ x ∷ [])))
      ≡ join_with_byte comma (map decimal (map number xs)) ++ (comma ∷ decimal (number x))
  numbers-more some = grind (arith, common_steps, join_more, length-map, map-append)

module _ (colours : Colours) (line hit : Colour) (text : List ℕ) where
  abbrev uncoloured_from : ℕ → List Found → List ℕ
  uncoloured_from from ms = uncoloured (parts_from colours line hit text from ms)

  last-text : (rest : List ℕ) → uncoloured (last_part colours line rest ∷ []) ≡ rest
  last-text [] = refl
  last-text (byte ∷ rest) = append-nil (byte ∷ rest)

  one-more : (from : ℕ) (m : Found) (ms : List Found) → from ≤ m.start → m.start ≤ m.end
      → (m.start == m.end) ≡ false → uncoloured_from m.end ms ≡ drop m.end text
      → uncoloured_from from (m ∷ ms) ≡ drop from text
  one-more from m ms before ordered some later = grind (arith, common_steps, drop_split, some, later)

  -- the parts from an offset on are what is left of the text
  rest-are : (from last : ℕ) (ms : List Found) → from ≤ last → AreDisjoint (whole text) (Some last) ms
      → uncoloured_from from ms ≡ drop from text
  rest-are from last [] less apart = last-text (drop from text)
  rest-are from last (m ∷ ms) less apart =
      let starts = (apart.1 last refl).0 in
      elim (cases_Bool (m.start == m.end)) [
        | inl none ↦ rw none (rest-are from m.end ms (omega (arith, less, starts, apart.0.ordered)) apart.2)
        | inr some ↦
            one-more from m ms (omega (arith, less, starts)) apart.0.ordered some
            (rest-are m.end m.end ms (omega arith) apart.2)
      ]

  pub parts-are : (ms : List Found) → AreDisjoint (whole text) None ms → uncoloured_from 0 ms ≡ text
  parts-are [] apart = last-text text
  parts-are (m ∷ ms) apart = elim (cases_Bool (m.start == m.end)) [
    | inl none ↦ rw none (rest-are 0 m.end ms (omega arith) apart.2)
    | inr some ↦
        one-more 0 m ms (omega arith) apart.0.ordered some (rest-are m.end m.end ms (omega arith) apart.2)
  ]

-- the byte starts no escape sequence
abbrev IsPlain : ℕ → Type 0
IsPlain byte = (byte == escape) ≡ false

-- bytes without an escape sequence stay
outside-bare : (xs ys : List ℕ) → HasNoSequence xs → outside false (xs ++ ys) ≡ xs ++ outside false ys
unfolding outside
outside-bare [] ys none = refl
outside-bare (x ∷ xs) ys none =
    rw (All-head IsPlain x xs none, outside-bare xs ys (All-tail IsPlain x xs none)) refl

-- a code is in an escape sequence
within-code : (code ys : List ℕ) → is_code code ≡ true → outside true (code ++ ys) ≡ outside true ys
unfolding outside
within-code [] ys is = refl
within-code (byte ∷ code) ys is = grind (arith, is, within-code code ys)

outside-clear : (colours : Colours) (ys : List ℕ) → outside false (clear colours ++ ys) ≡ outside false ys
unfolding outside
outside-clear colours ys = grind arith

outside-start : (colours : Colours) (code ys : List ℕ) → is_code code ≡ true
    → outside false (start_of colours code ++ ys) ≡ outside false ys
unfolding outside
outside-start colours [] ys is = refl
outside-start colours (byte ∷ code) ys is =
    grind (arith, common_steps, within-code (byte ∷ code), outside-clear, is)

outside-end : (colours : Colours) (code ys : List ℕ)
    → outside false (end_of colours code ++ ys) ≡ outside false ys
unfolding outside
outside-end colours [] ys = refl
outside-end colours (byte ∷ code) ys = grind (arith, common_steps, outside-clear)

outside-nil : outside false [] ≡ []
unfolding outside
outside-nil = refl

-- what has a colour has one of the codes
pub code-is : (colours : Colours) → AreCodes (palette_of colours) → (colour : Colour)
    → is_code (code_of colours colour) ≡ true
code-is colours are paint.Match = grind (arith, are)
code-is colours are paint.NearMatch = grind (arith, are)
code-is colours are paint.Line = grind (arith, are)
code-is colours are paint.NearLine = grind (arith, are)
code-is colours are paint.Name = grind (arith, are)
code-is colours are paint.Number = grind (arith, are)
code-is colours are paint.Offset = grind (arith, are)
code-is colours are paint.Separator = grind (arith, are)

module _ (colours : Colours) (line hit : Colour)
    (codes-are : (colour : Colour) → is_code (code_of colours colour) ≡ true) where
  outside-gap : (text ys : List ℕ) → HasNoSequence text
      → outside false (start_of colours (code_of colours line) ++ (text ++ ys)) ≡ text ++ outside false ys
  outside-gap text ys none =
      outside-start colours (code_of colours line) (text ++ ys) (codes-are line) ∙ outside-bare text ys none

  outside-part : (colour : Colour) (text ys : List ℕ) → HasNoSequence text
      → outside false (start_of colours (code_of colours colour)
      ++ (text ++ (end_of colours (code_of colours colour) ++ ys))) ≡ text ++ outside false ys
  outside-part colour text ys none =
      outside-start colours (code_of colours colour) (text ++ (end_of colours (code_of colours colour) ++ ys))
      (codes-are colour)
      ∙ outside-bare text (end_of colours (code_of colours colour) ++ ys) none
      ∙ ap (λ (l : List ℕ). text ++ l) (outside-end colours (code_of colours colour) ys)

  outside-last : (text : List ℕ) → HasNoSequence text
      → outside false (in_colours (last_part colours line text ∷ [])) ≡ text
  outside-last [] none = outside-nil
  outside-last (byte ∷ text) none =
      let end = end_of colours (code_of colours line) in
      rw (
        append_assoc (start_of colours (code_of colours line)) ((byte ∷ text) ++ end) [],
        append_assoc (byte ∷ text) end [],
      ) (outside-part line (byte ∷ text) [] none
      ∙ ap (λ (l : List ℕ). (byte ∷ text) ++ l) outside-nil ∙ append-nil (byte ∷ text))

  module _ (text : List ℕ) (none : HasNoSequence text) where
    slice-bare : (from to : ℕ) → HasNoSequence (slice_range text from to)
    slice-bare from to = All-take IsPlain (to - from) (drop from text) (All-drop IsPlain from text none)

    outside-parts : (from : ℕ) (ms : List Found)
        → outside false (in_colours (parts_from colours line hit text from ms))
        ≡ uncoloured (parts_from colours line hit text from ms)
    outside-parts from [] =
        outside-last (drop from text) (All-drop IsPlain from text none)
        ∙ sym (last-text colours line hit text (drop from text))
    outside-parts from (m ∷ ms) =
        let later = in_colours (parts_from colours line hit text m.end ms) in
        let gap = slice_range text from m.start in
        let here = slice_range text m.start m.end in
        elim (cases_Bool (m.start == m.end)) [
          | inl empty ↦ rw empty (outside-parts from ms)
          | inr some ↦
              rw some (grind (
                arith,
                common_steps,
                outside-gap gap,
                outside-part hit here,
                outside-parts m.end ms,
                slice-bare from m.start,
                slice-bare m.start m.end,
              ))
        ]

    pub colours-left-out : (ms : List Found) → AreDisjoint (whole text) None ms
        → outside false (painted_text colours line hit text ms) ≡ text
    colours-left-out ms apart = outside-parts 0 ms ∙ parts-are colours line hit text ms apart
