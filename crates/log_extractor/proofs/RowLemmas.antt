-- A row with tabs is one line, and what is between its tabs means its texts.
use Rattle.std.specs.List.{slice_split}
use Rattle.nfa_paths.proofs.Common.{◌≡◌, ◌≢◌, ◌↔◌, ℕ, Bool, true, false, Option, None, Some, length, sym, List, [], ◌∷◌, ◌++◌, codes, refl, arith, All, All-append, All-nil, common_steps, ◌∙◌, map, ap, append-nil, flat_map, All-cons, All-tail, ◌==◌}
use Rattle.program_text.specs.Lines.{carriage_return, line_feed}
use Rattle.log_extractor.specs.Printed.{backslash, escaped, escaped_byte, is_whole, tab, unescaped, members, row_text, written}
use Rattle.log_extractor.specs.declared.output.Form.TheVariants.{Tabs}
use Rattle.log_extractor.specs.declared.output.Values.{Values}

abbrev pub IsClean : ℕ → Type 0
IsClean byte = (byte ≢ tab) × (byte ≢ line_feed) × (byte ≢ carriage_return)

-- what holds of the four escapes, and of each other byte as it is, holds of each byte and what is written for it
by-byte : (P : ℕ → List ℕ → Type 0) → P tab (codes "\\t") → P line_feed (codes "\\n") → P carriage_return (codes "\\r")
    → P backslash (codes "\\\\") → ((byte : ℕ) → IsClean byte → byte ≢ backslash → P byte (byte ∷ []))
    → (byte : ℕ) → P byte (escaped_byte byte)
by-byte P at-tab at-feed at-return at-backslash other byte =
    grind (arith, at-tab, at-feed, at-return, at-backslash, other byte)

byte-clean : (byte : ℕ) → All IsClean (escaped_byte byte)
byte-clean byte = grind (arith, common_steps)

pub escaped-clean : (text : List ℕ) → All IsClean (escaped text)
escaped-clean [] = All-nil IsClean
escaped-clean (byte ∷ text) =
    All-append IsClean (escaped_byte byte) (escaped text) (byte-clean byte) (escaped-clean text)

plain-first : (byte : ℕ) (rest : List ℕ) → byte ≢ backslash → unescaped (byte ∷ rest) ≡ byte ∷ unescaped rest
plain-first byte rest other = grind (arith, other)

one-back : (rest : List ℕ) (byte : ℕ) → unescaped (escaped_byte byte ++ rest) ≡ byte ∷ unescaped rest
one-back rest =
    by-byte (λ byte written. unescaped (written ++ rest) ≡ byte ∷ unescaped rest) refl refl refl refl
    (λ byte clean other. plain-first byte rest other)

pub unescaped-escaped : (text : List ℕ) → unescaped (escaped text) ≡ text
unescaped-escaped [] = refl
unescaped-escaped (byte ∷ text) = grind (arith, one-back, unescaped-escaped text)

abbrev HasNoTab : List ℕ → Type 0
HasNoTab piece = All (λ byte. byte ≢ tab) piece

no-tab : (text : List ℕ) → HasNoTab (escaped text)
no-tab text = λ k d inside. (escaped-clean text k d inside).0

-- the parts of a row between its tabs
abbrev cut_at_tabs : List ℕ → List (List ℕ)
cut_at_tabs text = slice_split (λ byte. byte == tab) text

-- a piece with no tab, and a tab after it
cut-first : (piece rest : List ℕ) → HasNoTab piece → cut_at_tabs (piece ++ tab ∷ rest) ≡ piece ∷ cut_at_tabs rest
cut-first [] rest lacks = refl
cut-first (byte ∷ piece) rest lacks =
    grind (arith, lacks 0 byte, cut-first piece rest (All-tail (λ b. b ≢ tab) byte piece lacks))

cut-last : (piece : List ℕ) → HasNoTab piece → cut_at_tabs piece ≡ piece ∷ []
cut-last [] lacks = refl
cut-last (byte ∷ piece) lacks =
    grind (arith, lacks 0 byte, cut-last piece (All-tail (λ b. b ≢ tab) byte piece lacks))

cut-row : (text : List ℕ) (texts : List (List ℕ))
    → cut_at_tabs (row_text Tabs (text ∷ texts)) ≡ map (written Tabs) (text ∷ texts)
cut-row text [] = ap cut_at_tabs (append-nil (escaped text)) ∙ cut-last (escaped text) (no-tab text)
cut-row text (next ∷ texts) =
    cut-first (escaped text) (row_text Tabs (next ∷ texts)) (no-tab text)
    ∙ ap (λ fields. escaped text ∷ fields) (cut-row next texts)

all-back : (texts : List (List ℕ)) → map unescaped (map (written Tabs) texts) ≡ texts
all-back [] = refl
all-back (text ∷ texts) = grind (arith, unescaped-escaped, all-back texts)

pub read-back : (text : List ℕ) (texts : List (List ℕ))
    → map unescaped (cut_at_tabs (row_text Tabs (text ∷ texts))) ≡ text ∷ texts
read-back text texts = ap (map unescaped) (cut-row text texts) ∙ all-back (text ∷ texts)

abbrev HasNoEnd : ℕ → Type 0
HasNoEnd byte = (byte ≢ line_feed) × (byte ≢ carriage_return)

field-no-end : (text : List ℕ) → All HasNoEnd (escaped text)
field-no-end text = λ k d inside. let clean = escaped-clean text k d inside in (clean.1, clean.2)

tab-no-end : HasNoEnd tab
tab-no-end = (λ e. absurd (omega (arith, e)), λ e. absurd (omega (arith, e)))

abbrev after-tabs : List (List ℕ) → List ℕ
after-tabs texts = flat_map (λ field. tab ∷ field) (map (written Tabs) texts)

more-no-end : (texts : List (List ℕ)) → All HasNoEnd (after-tabs texts)
more-no-end [] = All-nil HasNoEnd
more-no-end (text ∷ texts) =
    All-append HasNoEnd (tab ∷ escaped text) (after-tabs texts)
    (All-cons HasNoEnd tab (escaped text) tab-no-end (field-no-end text)) (more-no-end texts)

pub one-line : (texts : List (List ℕ)) → All HasNoEnd (row_text Tabs texts)
one-line [] = All-nil HasNoEnd
one-line (text ∷ texts) = All-append HasNoEnd (escaped text) (after-tabs texts) (field-no-end text) (more-no-end texts)

pub members_none : (values : Values) (names : List (List ℕ)) → members values names [] ≡ []
members_none values [] = refl
members_none values (name ∷ names) = refl

abbrev nothing : List ℕ
nothing = []

no-bytes : (length nothing == 0) ≡ true
no-bytes = grind arith

some-bytes : (c : ℕ) (cs : List ℕ) → (length (c ∷ cs) == 0) ≡ false
some-bytes c cs = grind arith

-- a text is read to its end exactly if nothing is left
pub whole-is : (read : Option (List ℕ)) (b : Bool) → ((b ≡ true) ↔ (read ≡ Some [])) → b ≡ is_whole read
whole-is None true both = let same = both.0 refl in absurd (cc)
whole-is None false both = refl
whole-is (Some []) true both = sym no-bytes
whole-is (Some []) false both = both.1 refl ∙ sym no-bytes
whole-is (Some (c ∷ cs)) true both = let same = both.0 refl in absurd (cc)
whole-is (Some (c ∷ cs)) false both = sym (some-bytes c cs)
