-- What a glob matches: `?` is any character, `*` any text, and `[..]` one of some characters, or with `!` or `^` first
-- none of them. After a backslash a character is itself. Texts are lists of characters.
use Rattle.std.specs.Prelude.{ℕ, ◌+◌, Bool, true, false, not, ◌&&◌, ◌||◌, List, [], ◌∷◌, length, zero, suc, option_map, if◌then◌else◌, ◌==◌, nat_le, Option, None, Some, is_none, drop, take, position}
use Rattle.std.specs.Str.{chars}
pub use Rattle.grep_options.specs.declared.rules.Rule.{Rule}
pub use Rattle.grep_options.specs.declared.glob.Letter.{Letter}
pub use Rattle.grep_options.specs.declared.glob.Token.{Token}
pub use Rattle.grep_options.specs.declared.glob.Token.TheVariants as token
pub use Rattle.grep_options.specs.declared.matching.Outcome.{Outcome}
pub use Rattle.grep_options.specs.declared.matching.Outcome.TheVariants as outcome

-- a character of a glob that may have a meaning of its own
abbrev pub bare : ℕ → Letter
bare c = record { value = c; quoted = false }

-- a character that was after a backslash
abbrev pub literal : ℕ → Letter
literal c = record { value = c; quoted = true }

-- whether this character has its own meaning here
abbrev pub means : Letter → ℕ → Bool
means letter c = not letter.quoted && (letter.value == c)

-- The characters of a glob, each with whether a backslash was before it. The first `Bool` says that one was before the
-- first of these. A backslash at the end is itself.
abbrev pub letters_after : Bool → List ℕ → List Letter
letters_after false [] = []
letters_after true [] = literal 92 ∷ []
letters_after true (c ∷ cs) = literal c ∷ letters_after false cs
letters_after false (c ∷ cs) = if c == 92 then letters_after true cs else (bare c ∷ letters_after false cs)

-- a part of a glob: a character, any character, any text, or one of the characters of a set, or none of them
pub data Part : Type 0 where
  OneChar : ℕ → Part
  AnyChar : Part
  AnyText : Part
  InSet : Bool → List Letter → Part

-- the part that a token is
abbrev pub part_of : Token → Part
part_of (token.Is c) = OneChar c
part_of token.Any = AnyChar
part_of token.Star = AnyText
part_of (token.Set negated letters) = InSet negated letters.now

-- Whether a character is in a set: it is one of these characters, or from one with a hyphen after it to the next one.
abbrev pub set_has : List Letter → ℕ → Bool
set_has [] c = false
set_has (a ∷ []) c = c == a.value
set_has (a ∷ b ∷ []) c = (c == a.value) || (c == b.value)
set_has (a ∷ b ∷ d ∷ letters) c =
    if means b 45 then ((nat_le a.value c && nat_le c d.value) || set_has letters c)
    else ((c == a.value) || set_has (b ∷ d ∷ letters) c)

-- whether the part matches this character
abbrev pub takes : Part → ℕ → Bool
takes (OneChar a) c = c == a
takes AnyChar c = true
takes AnyText c = true
takes (InSet negated letters) c = if negated then not (set_has letters c) else set_has letters c

-- whether the part is any text
abbrev pub is_any_text : Part → Bool
is_any_text (OneChar a) = false
is_any_text AnyChar = false
is_any_text AnyText = true
is_any_text (InSet negated letters) = false

-- whether something is so of a text, or of what is left of it after some characters; and the same of other lists
abbrev pub some_rest : {A : Type 0} → (List A → Bool) → List A → Bool
some_rest p [] = p []
some_rest p (c ∷ cs) = p (c ∷ cs) || some_rest p cs

-- whether the text, or another list, is empty
abbrev pub is_nil : {A : Type 0} → List A → Bool
is_nil [] = true
is_nil _ = false

-- whether the first one of a text, or of another list, is matched, and the other ones are as they have to be
abbrev pub takes_first : {A : Type 0} → (A → Bool) → (List A → Bool) → List A → Bool
takes_first p q [] = false
takes_first p q (c ∷ cs) = p c && q cs

-- whether these parts match the whole text
abbrev pub parts_match : List Part → List ℕ → Bool
parts_match [] text = is_nil text
parts_match (AnyText ∷ parts) text = some_rest (parts_match parts) text
parts_match (OneChar a ∷ parts) text = takes_first (takes (OneChar a)) (parts_match parts) text
parts_match (AnyChar ∷ parts) text = takes_first (takes AnyChar) (parts_match parts) text
parts_match (InSet negated letters ∷ parts) text =
    takes_first (takes (InSet negated letters)) (parts_match parts) text

-- whether the parts match the text
abbrev pub is_match : Outcome → Bool
is_match outcome.Match = true
is_match outcome.Other = false
is_match outcome.Short = false

-- whether the text, and what is left of it after some characters, is too short for the parts
abbrev pub is_short : Outcome → Bool
is_short outcome.Match = false
is_short outcome.Other = false
is_short outcome.Short = true

-- the number of letters that negate the set which begins here, after a bracket
abbrev pub negation : List Letter → ℕ
negation [] = 0
negation (letter ∷ _) = if means letter 33 || means letter 94 then 1 else 0

-- The letters of a set of these that come after `!` or `^`, if a bracket ends it. The first one belongs to the set in
-- any case.
abbrev pub set_letters : List Letter → Option (List Letter)
set_letters [] = None
set_letters (letter ∷ letters) =
    option_map (λ at. letter ∷ take at letters) (position (λ l. means l 93) letters)

-- the set that begins after a bracket, if another bracket ends it
abbrev pub set_after : List Letter → Option (List Letter)
set_after letters = set_letters (drop (negation letters) letters)

-- the part that begins with this letter, and how many of the next ones belong to it
abbrev pub set_or_bracket : List Letter → Option (List Letter) → Part × ℕ
set_or_bracket letters None = (OneChar 91, 0)
set_or_bracket letters (Some inside) = (InSet (negation letters == 1) inside, negation letters + length inside + 1)

abbrev pub part_at : Letter → List Letter → Part × ℕ
part_at letter letters =
    if means letter 42 then (AnyText, 0)
    else (if means letter 63 then (AnyChar, 0)
    else (if means letter 91 then set_or_bracket letters (set_after letters)
    else (OneChar letter.value, 0)))

-- the parts of these letters without the first ones
abbrev pub parts_after : ℕ → List Letter → List Part
parts_after skipped [] = []
parts_after (suc skipped) (letter ∷ letters) = parts_after skipped letters
parts_after zero (letter ∷ letters) =
    (part_at letter letters).0 ∷ parts_after (part_at letter letters).1 letters

-- whether a bracket that another one would have to end begins here
abbrev pub is_open_set : Letter → List Letter → Bool
is_open_set letter letters = means letter 91 && is_none (set_after letters)

-- whether one of these letters without the first ones is such a bracket
abbrev pub has_open_set : ℕ → List Letter → Bool
has_open_set skipped [] = false
has_open_set (suc skipped) (letter ∷ letters) = has_open_set skipped letters
has_open_set zero (letter ∷ letters) =
    is_open_set letter letters || has_open_set (part_at letter letters).1 letters

-- the parts of a glob
abbrev pub parts_of : List ℕ → List Part
parts_of glob = parts_after 0 (letters_after false (chars glob))

-- whether something is so of what comes after a slash in the text
abbrev pub some_tail : (List ℕ → Bool) → List ℕ → Bool
some_tail p [] = false
some_tail p (c ∷ cs) = ((c == 47) && p cs) || some_tail p cs

-- Whether the rule fits a name: its glob matches it, or if the name is an argument, what comes after a slash in it.
abbrev pub rule_fits : Bool → List ℕ → Rule → Bool
rule_fits named text rule =
    parts_match (parts_of rule.glob.now) text || (named && some_tail (parts_match (parts_of rule.glob.now)) text)

-- whether the last one of these rules that fits leaves the name out, or this if none fits
abbrev pub decided : Bool → List ℕ → Bool → List Rule → Bool
decided named text out [] = out
decided named text out (rule ∷ rules) =
    decided named text (if rule_fits named text rule then not rule.included else out) rules

-- whether the first rule says what is left in
abbrev pub begins_with_included : List Rule → Bool
begins_with_included [] = false
begins_with_included (rule ∷ _) = rule.included

-- Whether these rules leave a name out: the last one that fits does, or if none fits, the first one says what is left
-- in.
abbrev pub is_left_out : Bool → List Rule → List ℕ → Bool
is_left_out named rules name = decided named (chars name) (begins_with_included rules) rules
