-- The position of a place follows from that of the place before it, and is no greater than the place.
use Rattle.std.proofs.Common.{◌≡◌, ℕ, zero, suc, ◌+◌, ◌≤◌, ◌<◌, Bool, false, List, [], ◌∷◌, ◌++◌, All, length, take, refl, sym, arith, get_or, Option, None, Some, IfSome, not, option_map, if◌then◌else◌}
use Rattle.std.specs.List.{filter}
use Rattle.std.proofs.lemmas.List.{length-take-le, take_more}
use Rattle.lexer.specs.Positions.{continues_character, first_position, is_feed, position_past_all, position_at, position_past}
use Rattle.lexer.specs.Printed.{position_if}
use Rattle.lexer.specs.declared.position.Position.{Position}

after-append : (p : Position) (xs ys : List ℕ)
    → position_past_all p (xs ++ ys) ≡ position_past_all (position_past_all p xs) ys
unfolding position_past_all
after-append p [] ys = refl
after-append p (x ∷ xs) ys = after-append (position_past p x) xs ys

-- the position one byte on
pub position-next : (text : List ℕ) (at : ℕ) → at < length text
    → position_past (position_at text at) (get_or text at 0) ≡ position_at text (at + 1)
unfolding position_past_all
position-next text at less =
    sym (rw (take_more text at 0 less) (after-append first_position (take at text) (get_or text at 0 ∷ [])))

-- line and column are at most one more than the number of the bytes
pub record IsBelow (n : ℕ) (p : Position) : Type 0 where
  pub line : p.line ≤ n + 1
  pub column : p.column ≤ n + 1

past-below : (n : ℕ) (p : Position) (byte : ℕ) → IsBelow n p → IsBelow (n + 1) (position_past p byte)
past-below n p byte below = record { line = grind (arith, below.line); column = grind (arith, below.column) }

below-all : (bytes : List ℕ) (n : ℕ) (p : Position) → IsBelow n p
    → IsBelow (n + length bytes) (position_past_all p bytes)
unfolding position_past_all
below-all [] n p below = record { line = omega (arith, below.line); column = omega (arith, below.column) }
below-all (byte ∷ bytes) n p below =
    let rest = below-all bytes (n + 1) (position_past p byte) (past-below n p byte below) in
    record { line = omega (arith, rest.line); column = omega (arith, rest.column) }

pub position-below : (text : List ℕ) (at : ℕ) → at ≤ length text → IsBelow at (position_at text at)
position-below text at within =
    let long = length-take-le at text within in
    let below = below-all (take at text) 0 first_position (record { line = omega arith; column = omega arith }) in
    record { line = omega (arith, long, below.line); column = omega (arith, long, below.column) }

pub first-there : (text : List ℕ) → first_position ≡ position_at text 0
unfolding position_past_all
first-there text = refl

-- the position of the start, if positions are printed
pub position-start : (b : Bool) (o : Option Position) (text : List ℕ)
    → o ≡ (if b then Some first_position else None) → o ≡ position_if b text 0
position-start b o text is = rw (← first-there text) is

-- the position of a later place, if positions are printed
pub position-moved : (b : Bool) (o : Option Position) (text : List ℕ) (from to : ℕ) → o ≡ position_if b text from
    → option_map (λ (p : Position). position_at text to) o ≡ position_if b text to
position-moved b o text from to is = grind arith

pub position_given : (b : Bool) (o : Option Position) (text : List ℕ) (at : ℕ) → o ≡ position_if b text at
    → IfSome o (λ p. p ≡ position_at text at)
position_given b o text at is = grind arith

-- What a line and a column count.

lines-counted : (p : Position) (bytes : List ℕ)
    → (position_past_all p bytes).line ≡ p.line + length (filter is_feed bytes)
unfolding position_past_all
lines-counted p [] = omega arith
lines-counted p (byte ∷ bytes) = grind (arith, lines-counted (position_past p byte) bytes)

pub lines-are-counted : (text : List ℕ) (at : ℕ)
    → (position_at text at).line ≡ 1 + length (filter is_feed (take at text))
lines-are-counted text at = lines-counted first_position (take at text)

pub columns-are-counted : (p : Position) (line : List ℕ) → All (λ b. is_feed b ≡ false) line
    → (position_past_all p line).column ≡ p.column + length (filter (λ b. not (continues_character b)) line)
unfolding position_past_all
columns-are-counted p [] none = omega arith
columns-are-counted p (byte ∷ line) none =
    let other : is_feed byte ≡ false = none zero 0 (omega arith) in
    let rest = columns-are-counted (position_past p byte) line (λ k d inside. none (suc k) d (omega (arith, inside))) in
    grind (arith, other, rest)
