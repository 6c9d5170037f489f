-- The names of the samples.
use Rattle.std.specs.Prelude.{◌≢◌, ℕ, List, [], ◌∷◌, ◌++◌, codes, ⊤}

-- the names of samples whose patterns are words
abbrev pub word_names : List (List ℕ)
word_names =
    codes "abc" ∷ codes "ab_b" ∷ codes "ab_abc" ∷ codes "abc_ab" ∷ codes "abc_b" ∷ codes "foo_bar" ∷
    codes "b_a" ∷ codes "abc_a" ∷ codes "abcd_b" ∷ []

-- the names of samples that can match the empty string
abbrev pub empty_names : List (List ℕ)
empty_names =
    codes "a_or_empty" ∷ codes "empty_or_a" ∷ codes "empty" ∷ codes "empty_bytes" ∷ codes "empty_anchored" ∷
    codes "a_star" ∷ codes "a_star_bytes" ∷ codes "loop" ∷ codes "snowman" ∷ []

-- the names of the other samples
abbrev pub table_names : List (List ℕ)
table_names =
    codes "groups" ∷ codes "a_bare" ∷ codes "a_pair" ∷ codes "backwards" ∷ codes "three_digits" ∷
    codes "alnum100" ∷ codes "words_numbers" ∷ codes "foo_num" ∷ codes "date" ∷ codes "six" ∷ []

-- the names of all samples
abbrev pub sample_names : List (List ℕ)
sample_names = word_names ++ (empty_names ++ table_names)

-- the name is not one of these
abbrev pub IsNoneOf : List ℕ → List (List ℕ) → Type 0
IsNoneOf name [] = ⊤
IsNoneOf name (n ∷ names) = (name ≢ n) × IsNoneOf name names
