-- What the outcome of parts of a glob and a text says of what is left of the text.
use Rattle.std.proofs.Common.{◌≡◌, ℕ, ◌-◌, ◌≤◌, Bool, true, false, ◌&&◌, ◌==◌, List, [], ◌∷◌, length, drop, get_or, map, take, refl, sym, ap, ap₂, ◌∙◌, ◌||◌, arith, take_all}
use Rattle.std.proofs.lemmas.Bool.{and_right, or_from, or_left, or_parts}
use Rattle.grep_options.specs.declared.matching.Outcome.TheVariants as outcome
use Rattle.grep_options.specs.Globs.{AnyChar, AnyText, InSet, OneChar, Outcome, Part, Token, is_any_text, is_match, is_short, part_of, parts_match, some_rest, some_tail, takes, takes_first}

-- what is so of a list is so of it, or of what is left of it after some of its elements
pub whole_is_rest : {A : Type 0} (p : List A → Bool) (text : List A) → p text ≡ true → some_rest p text ≡ true
whole_is_rest p [] here = here
whole_is_rest p (c ∷ cs) here = or_left (p (c ∷ cs)) (some_rest p cs) here

-- what is so of nothing that is left of a list is not so of the list
not_whole : {A : Type 0} (p : List A → Bool) (text : List A) → some_rest p text ≡ false → p text ≡ false
not_whole p [] none = none
not_whole p (c ∷ cs) none = (or_parts (p (c ∷ cs)) (some_rest p cs) none).0

-- what is so of the same lists is so of what is left of the same ones
pub same_rest : {A : Type 0} (p q : List A → Bool) → ((text : List A) → p text ≡ q text)
    → (text : List A) → some_rest p text ≡ some_rest q text
same_rest p q same [] = same []
same_rest p q same (c ∷ cs) = ap₂ (λ (x y : Bool). x || y) (same (c ∷ cs)) (same_rest p q same cs)

-- an outcome for a text that is too short is none of a match
pub short_is_none : (o : Outcome) (b : Bool) → is_match o ≡ b → is_short o ≡ true → b ≡ false
short_is_none outcome.Match b same short = cc
short_is_none outcome.Other b same short = sym same
short_is_none outcome.Short b same short = sym same

-- the other ones, as a slice has them
pub rest_is : {A : Type 0} (x : A) (xs : List A) → take (length (x ∷ xs) - 1) (drop 1 (x ∷ xs)) ≡ xs
rest_is x xs = take_all (length (x ∷ xs) - 1) (drop 1 (x ∷ xs)) (omega arith)

-- what parts match that begin with any text
star_is : (ps : List Part) (p : Part) → is_any_text p ≡ true
    → (text : List ℕ) → parts_match (p ∷ ps) text ≡ some_rest (parts_match ps) text
star_is ps (OneChar a) star text = cc
star_is ps AnyChar star text = cc
star_is ps AnyText star text = refl
star_is ps (InSet negated letters) star text = cc

-- what parts match that begin with something else
first_is : (ps : List Part) (p : Part) → is_any_text p ≡ false
    → (text : List ℕ) → parts_match (p ∷ ps) text ≡ takes_first (takes p) (parts_match ps) text
first_is ps (OneChar a) star text = refl
first_is ps AnyChar star text = refl
first_is ps AnyText star text = cc
first_is ps (InSet negated letters) star text = refl

-- the parts of a slice that begins with any text
pub parts_with_star : (tokens : List Token) (x : Token) → 1 ≤ length tokens
    → is_any_text (part_of (get_or tokens 0 x)) ≡ true → (text : List ℕ)
    → parts_match (map part_of tokens) text
    ≡ some_rest (parts_match (map part_of (take (length tokens - 1) (drop 1 tokens)))) text
parts_with_star [] x long star text = absurd (omega arith)
parts_with_star (t ∷ ts) x long star text =
    star_is (map part_of ts) (part_of t) star text
    ∙ ap (λ (l : List Token). some_rest (parts_match (map part_of l)) text) (sym (rest_is t ts))

-- the parts of a slice that begins with something else
pub parts_with_first : (tokens : List Token) (x : Token) → 1 ≤ length tokens
    → is_any_text (part_of (get_or tokens 0 x)) ≡ false → (text : List ℕ)
    → parts_match (map part_of tokens) text
    ≡ takes_first (takes (part_of (get_or tokens 0 x)))
    (parts_match (map part_of (take (length tokens - 1) (drop 1 tokens)))) text
parts_with_first [] x long star text = absurd (omega arith)
parts_with_first (t ∷ ts) x long star text =
    first_is (map part_of ts) (part_of t) star text
    ∙ ap (λ (l : List Token). takes_first (takes (part_of t)) (parts_match (map part_of l)) text) (sym (rest_is t ts))

-- if a text is too short for some parts, it is for these with any text before them
pub short_after_star : {A : Type 0} (p q : List A → Bool) → ((text : List A) → p text ≡ some_rest q text)
    → (text : List A) → some_rest q text ≡ false → some_rest p text ≡ false
short_after_star p q same [] none = same [] ∙ none
short_after_star p q same (c ∷ cs) none =
    or_from (p (c ∷ cs)) (some_rest p cs) (same (c ∷ cs) ∙ none)
    (short_after_star p q same cs (or_parts (q (c ∷ cs)) (some_rest q cs) none).1)

-- a list whose first element is matched, and the other ones are not
rest_fails : {A : Type 0} (f : A → Bool) (q : List A → Bool) (c : A) (cs : List A) → q cs ≡ false
    → takes_first f q (c ∷ cs) ≡ false
rest_fails f q c cs none = and_right (f c) (q cs) none

-- the same with one element before them
pub shorter : {A : Type 0} (p q : List A → Bool) (f : A → Bool) → ((text : List A) → p text ≡ takes_first f q text)
    → (c : A) (cs : List A) → some_rest q cs ≡ false → some_rest p (c ∷ cs) ≡ false
shorter p q f same c [] none =
    or_from (p (c ∷ [])) (some_rest p []) (same (c ∷ []) ∙ rest_fails f q c [] none) (same [])
shorter p q f same c (d ∷ ds) none =
    or_from (p (c ∷ d ∷ ds)) (some_rest p (d ∷ ds))
    (same (c ∷ d ∷ ds) ∙ rest_fails f q c (d ∷ ds) (or_parts (q (d ∷ ds)) (some_rest q ds) none).0)
    (shorter p q f same d ds (or_parts (q (d ∷ ds)) (some_rest q ds) none).1)

-- the same, with the other elements as a slice has them
pub short_after_first : {A : Type 0} (p q : List A → Bool) (f : A → Bool)
    → ((text : List A) → p text ≡ takes_first f q text)
    → (text : List A) → 1 ≤ length text
    → some_rest q (take (length text - 1) (drop 1 text)) ≡ false → some_rest p text ≡ false
short_after_first p q f same [] long none = absurd (omega arith)
short_after_first p q f same (c ∷ cs) long none =
    shorter p q f same c cs (ap (some_rest q) (sym (rest_is c cs)) ∙ none)

-- what is so of nothing that is left of a text is so of nothing after a slash in it
none_after_slash : (p : List ℕ → Bool) (text : List ℕ) → some_rest p text ≡ false → some_tail p text ≡ false
none_after_slash p [] none = refl
none_after_slash p (c ∷ cs) none =
    or_from ((c == 47) && p cs) (some_tail p cs)
    (and_right (c == 47) (p cs) (not_whole p cs (or_parts (p (c ∷ cs)) (some_rest p cs) none).1))
    (none_after_slash p cs (or_parts (p (c ∷ cs)) (some_rest p cs) none).1)

-- the same, with what is left as a slice has it
pub none_in_slice : (p : List ℕ → Bool) (text : List ℕ) → 1 ≤ length text
    → some_rest p (take (length text - 1) (drop 1 text)) ≡ false → false ≡ some_tail p text
none_in_slice p [] long none = absurd (omega arith)
none_in_slice p (c ∷ cs) long none =
    sym (or_from ((c == 47) && p cs) (some_tail p cs)
    (and_right (c == 47) (p cs) (not_whole p cs (ap (some_rest p) (sym (rest_is c cs)) ∙ none)))
    (none_after_slash p cs (ap (some_rest p) (sym (rest_is c cs)) ∙ none)))
