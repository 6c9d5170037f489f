-- the finder of pieces
use Rattle.std.specs.Prelude.{◌+◌, ℕ, min, nat_le, if◌then◌else◌, None, Some, Ok}
use Rattle.regex_search_core.specs.Found.{Found}
use Rattle.regex_search_core.specs.Search.{Search}
use Rattle.nfa_search_base.specs.IterStates.{Answer}

-- the finder of pieces: a match of the first pattern that takes at most `len` bytes from the start of the span, if that
-- is not after its end
abbrev pub piece_answer : ℕ → Search → Answer Found
piece_answer len s = Ok (if nat_le s.start s.end then Some
    (record { pattern = 0; start = s.start; end = min (s.start + len) s.end }) else None)
