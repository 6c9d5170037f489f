-- the finder of empty matches
use Rattle.std.specs.Prelude.{◌≡◌, nat_le, nat_eq, [], ◌∷◌, if◌then◌else◌, None, Some, Ok}
use Rattle.nfa_search_base.specs.Common.{Found, Search, Row, Answer}

-- an empty match of the first pattern at the start of the span, if that is not after its end
abbrev pub empty_answer : Search → Answer Found
empty_answer s = Ok (if nat_le s.start s.end then Some
    (record { pattern = 0; start = s.start; end = s.start }) else None)

-- the row of the empty match of the first pattern at the start of the haystack
abbrev pub zero_row : Search → Answer Row
zero_row s = Ok (if nat_eq s.start 0 then Some (record { pattern = Some 0; slots = Some 0 ∷ Some 0 ∷ [] }) else None)

-- a search answers that match and no other
abbrev pub EmptyTells : Search → Answer Found → Type 0
EmptyTells s a = a ≡ empty_answer s
