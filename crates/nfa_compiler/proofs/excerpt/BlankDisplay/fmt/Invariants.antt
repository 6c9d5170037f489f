-- the blanks so far
use Rattle.nfa_paths.proofs.Common.{take, flat_map}
use Rattle.std.specs.Fmt.{HasWritten, IsPlainFormatter}
use Rattle.nfa_compiler.specs.Common.{blank_byte}
use Rattle.nfa_compiler.proofs.excerpt.BlankDisplay.fmt.Given as goal

abbrev pub invariant-loop-byte : goal.invariant-loop-byte
invariant-loop-byte g l =
    IsPlainFormatter l.initial.f
    → HasWritten g.W.Write.write_str_gives l.initial.f (flat_map blank_byte (take l.byte-index l.byte-items)) l.f
