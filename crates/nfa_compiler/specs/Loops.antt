-- The forms of patterns: loops whose part may match the empty string, and patterns that begin with `Start`. In such a
-- loop each round after the first has to read a byte.
use Rattle.std.specs.Prelude.{ℕ, zero, suc, Bool, true, false, not, ◌&&◌, ◌||◌, IsTrue, List, [], ◌∷◌, length, nat_lt, Option, Some, None}
use Rattle.regex_hir.specs.Re.{Re, empty, literal, byte_in, char_in, look, cat, alt, group, plus}
use Rattle.regex_hir.specs.Reads.{always_reads}
use Rattle.regex_hir.specs.declared.look.Look.{Look}
use Rattle.regex_hir.specs.declared.look.Look.TheVariants.{Start}
use Rattle.nfa_compiler.specs.declared.loops.Form.{Form}

-- no part of the pattern reads a byte
abbrev pub never_reads : Re → Bool
never_reads empty = true
never_reads (literal bs) = not (nat_lt 0 (length bs))
never_reads (byte_in rs) = false
never_reads (char_in rs) = false
never_reads (look l) = true
never_reads (cat a b) = never_reads a && never_reads b
never_reads (alt a b) = never_reads a && never_reads b
never_reads (group n a) = never_reads a
never_reads (plus greedy a) = never_reads a

-- the assertion is that of the start of the haystack
abbrev pub is_start : Look → Bool
is_start Start = true
is_start _ = false

-- Each way through the pattern has the assertion `Start`, and no part before it that reads a byte. No way leads through
-- a class without ranges.
abbrev pub begins_at_start : Re → Bool
begins_at_start empty = false
begins_at_start (literal bs) = false
begins_at_start (byte_in rs) = not (nat_lt 0 (length rs))
begins_at_start (char_in rs) = not (nat_lt 0 (length rs))
begins_at_start (look l) = is_start l
begins_at_start (cat a b) = begins_at_start a || (never_reads a && begins_at_start b)
begins_at_start (alt a b) = begins_at_start a && begins_at_start b
begins_at_start (group n a) = begins_at_start a
begins_at_start (plus greedy a) = begins_at_start a

-- each of these patterns does
abbrev pub all_begin_at_start : List Re → Bool
all_begin_at_start [] = true
all_begin_at_start (re ∷ res) = begins_at_start re && all_begin_at_start res

-- The pattern has a repetition without an upper bound whose part may match the empty string, and more than that: some
-- way through the part has none that reads a byte, and some part of it reads one.
abbrev pub has_empty_loop : Re → Bool
has_empty_loop (cat a b) = has_empty_loop a || has_empty_loop b
has_empty_loop (alt a b) = has_empty_loop a || has_empty_loop b
has_empty_loop (group n a) = has_empty_loop a
has_empty_loop (plus greedy a) = (not (always_reads a) && not (never_reads a)) || has_empty_loop a
has_empty_loop _ = false

-- the same as a fact
abbrev pub HasEmptyLoop : Re → Type 0
HasEmptyLoop re = IsTrue (has_empty_loop re)

-- what the form of a pattern says of it
abbrev pub form_of : Re → Form
form_of re = record {
  always_reads = always_reads re;
  never_reads = never_reads re;
  has_empty_loop = has_empty_loop re;
  begins_at_start = begins_at_start re;
}

-- the form of a pattern of the first form, and then one of the second
abbrev pub form_then : Form → Form → Form
form_then a b = record {
  always_reads = a.always_reads || b.always_reads;
  never_reads = a.never_reads && b.never_reads;
  has_empty_loop = a.has_empty_loop || b.has_empty_loop;
  begins_at_start = a.begins_at_start || (a.never_reads && b.begins_at_start);
}

-- the form of an alternation of patterns of these forms
abbrev pub form_either : Form → Form → Form
form_either a b = record {
  always_reads = a.always_reads && b.always_reads;
  never_reads = a.never_reads && b.never_reads;
  has_empty_loop = a.has_empty_loop || b.has_empty_loop;
  begins_at_start = a.begins_at_start && b.begins_at_start;
}

-- the form of `{min,max}` after a part of this form
abbrev pub form_repeated : Form → ℕ → Option ℕ → Form
form_repeated a zero None = record a {
  always_reads = false;
  has_empty_loop = (not a.always_reads && not a.never_reads) || a.has_empty_loop;
  begins_at_start = false;
}
form_repeated a (suc n) None =
    record a { has_empty_loop = (not a.always_reads && not a.never_reads) || a.has_empty_loop }
form_repeated a zero (Some zero) = form_of empty
form_repeated a zero (Some (suc m)) = record a { always_reads = false; begins_at_start = false }
form_repeated a (suc n) (Some m) = a
