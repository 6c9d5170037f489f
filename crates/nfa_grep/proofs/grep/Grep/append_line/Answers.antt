-- What is printed of a line with `only` are its matches.
use Rattle.nfa_paths.proofs.Common.{◌≡◌, ◌∙◌, ℕ, ◌++◌, Bool, List, [], ap, append-nil, false, inl, inr, refl, subst, sym, true, ◌⊎◌, if◌then◌else◌, not, on_ok_weaker}
use Rattle.nfa_grep.specs.Meant.{Grepping, Mean, is_found, Options, Re}
use Rattle.nfa_grep.specs.Printed.{is_selected, shown_if_selected, text_of}
use Rattle.nfa_grep.proofs.PaintedLemmas.{shown-matches, shown-whole}
use Rattle.nfa_grep.proofs.grep.Grep.append_line.Goals as goal
use Rattle.nfa_grep.proofs.grep.Grep.append_line.Goals.{else-options-via-else-options, else-selected-via-else-selected, else-options-via-then-options+else-not-options, else-selected-via-then-selected+else-not-options-2}

abbrev nothing : List ℕ
nothing = []

-- nothing is printed of a line that is not selected, or if the matches of lines without a match are printed
unshown : (options : Options) (res : List Re) (name : List ℕ) (number offset : ℕ) (line : List ℕ)
    → (is_selected options res line ≡ false) ⊎ ((options.only ≡ true) × (options.inverted ≡ true))
    → shown_if_selected options res name number offset line ≡ []
unshown options res name number offset line (inl none) = rw none refl
unshown options res name number offset line (inr both) =
    rw (both.0, both.1) (of (not (is_found res (text_of options line))))
  where
    of : (b : Bool) → (if b then nothing else nothing) ≡ nothing
    of true = refl
    of false = refl

pub returns-then-not-options-clause-shown : goal.returns-then-not-options-clause-shown
returns-then-not-options-clause-shown c =
    let options = c.args.self.now.options in
    let same : c.self.inside.options ≡ options = ap (λ (g : Grepping). g.options) c.self.view_is in
    let place = c.args.place in
    on_ok_weaker c.append_matches.result (λ appended. λ res meant.
    appended res meant ∙ ap (λ l. c.args.out.now.items ++ l) (sym (shown-matches options res
    place.name.now place.number place.offset c.args.line.now
    (sym (ap (λ (o : Options). o.only) same) ∙ c.if-options.true)
    (sym (ap (λ (o : Options). o.inverted) same) ∙ c.if-not-options.true))))
    c.append_matches.ensures.shown

pub returns-in_ok-append_whole-clause-shown : goal.returns-in_ok-append_whole-clause-shown
returns-in_ok-append_whole-clause-shown c = λ res meant.
    let options = c.args.self.now.options in
    let place = c.args.place in
    let line = c.args.line.now in
    let same : c.self.inside.options ≡ options = ap (λ (g : Grepping). g.options) c.self.view_is in
    let only : options.only ≡ false =
    sym (ap (λ (o : Options). o.only) same) ∙ c.if-not-options-2.true in
    let selected : is_selected options res line ≡ true =
    sym (c.selects-selected.ensures.selected res meant) ∙ c.if-selected.true in
    let kept : c.selects-selected.new.self ≡ c.args.self.now = c.selects-selected.ensures.kept in
    let meant-here = subst (λ (g : Grepping). Mean g res) (sym kept) meant in
    rw kept at (c.in_ok-append_whole.ensures.shown res meant-here)
    ∙ ap (λ l. c.args.out.now.items ++ l)
    (sym (shown-whole options res place.name.now place.number place.offset line only selected))

pub returns-else-selected-clause-shown : goal.returns-else-selected-clause-shown
returns-else-selected-clause-shown c = λ res meant.
    let options = c.args.self.now.options in
    let place = c.args.place in
    let line = c.args.line.now in
    let out = c.args.out.now.items in
    let same : c.self.inside.options ≡ options = ap (λ (g : Grepping). g.options) c.self.view_is in
    let only-is = ap (λ (o : Options). o.only) same in
    let inverted-is = ap (λ (o : Options). o.inverted) same in
    let cases : (is_selected options res line ≡ false) ⊎ ((options.only ≡ true) × (options.inverted ≡ true)) =
    elim c.else-selected.branch [
      | else-selected-via-else-selected w ↦
          inl (sym (c.selects-selected.ensures.selected res meant) ∙ w.if-selected.false)
      | else-selected-via-then-selected+else-not-options-2 w ↦
          elim c.else-options.branch [
            | else-options-via-then-options+else-not-options v ↦
                inr (sym only-is ∙ v.if-options.true, sym inverted-is ∙ v.if-not-options.false)
            | else-options-via-else-options v ↦
                let only : c.self.inside.options.only ≡ true = w.if-not-options-2.false in
                let both : false ≡ true = sym v.if-options.false ∙ only in
                absurd (cc)
          ]
    ] in
    sym (ap (λ (l : List ℕ). out ++ l) (unshown options res place.name.now place.number place.offset line cases)
    ∙ append-nil out)
