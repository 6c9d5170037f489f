-- `from_utf8` tests whether the bytes are UTF-8.
use Rattle.std.proofs.Common.{ap, Some}
use Rattle.std.proofs.lemmas.Bool.{false_from_ne_true}
use Rattle.std.proofs.lemmas.Str.{IsUtf8-from_is_utf8, is_utf8-from_IsUtf8}
use Rattle.examples.proofs.cookbook.field.as_text.Goals as goal

pub returns-in-Ok : goal.returns-in-Ok
returns-in-Ok c =
    let u = c.in-Ok.ensures.cases in
    rw (is_utf8-from_IsUtf8 c.args.bytes.now u.1) (ap Some u.0)

pub returns-in-Err : goal.returns-in-Err
returns-in-Err c =
    let u = c.in-Err.ensures.cases in
    rw (false_from_ne_true _ (λ e. u.0 (IsUtf8-from_is_utf8 c.args.bytes.now e)))
