-- The rows that a cache remembers as those that searches begin with.
use Rattle.std.specs.Prelude.{◌≡◌, ℕ, ◌+◌, ◌<◌, ◌≢◌, Bool, List, [], ◌∷◌, length, Option, Some, slice_get, slice_index_or, if◌then◌else◌}
use Rattle.nfa_lazy_dfa.specs.Stances.{Stance, first_stance}

-- what a search keeps of the byte before it, by its kind: a byte of a word, another one, line feed, carriage return, or
-- none
abbrev pub before_in : ℕ → Option ℕ
before_in kind = slice_get (97 ∷ 32 ∷ 10 ∷ 13 ∷ []) kind

-- the place of the row that a search begins with after a byte of this kind, if it may start later or may not
abbrev pub first_place : ℕ → Bool → ℕ
first_place kind more = if more then kind + 5 else kind

-- the place of the row that such a search begins with
pub record IsFirstPlace (before : Option ℕ) (more : Bool) (place : ℕ) : Type 0 where
  pub kind : ℕ
  pub low : kind < 5
  pub before_is : before_in kind ≡ before
  pub place_is : place ≡ first_place kind more

-- each row that is remembered is the one that a search from this start begins with
pub record AreFirsts (start : ℕ) (stances : List Stance) (firsts : List ℕ) : Type 0 where
  pub count : length firsts ≡ 10
  pub are : (kind : ℕ) (more : Bool) → kind < 5
      → slice_index_or firsts (first_place kind more) 0 ≢ 0xFFFF_FFFF
      → slice_get stances (slice_index_or firsts (first_place kind more) 0)
      ≡ Some (first_stance start (before_in kind) more)
