-- One more member was appended, and at last all.
use Rattle.std.specs.Iterator.Adapters.{zip_first, zip_second}
use Rattle.std.specs.Slice.Iter.{iter_rest}
use Rattle.nfa_paths.proofs.Common.{rules, ◌≡◌, append-nil, append_assoc, inl, inr, refl, sym, Zip-more, either_empty_from_Zip}
use Rattle.log_extractor.proofs.RowLemmas.{members_none}
use Rattle.log_extractor.proofs.object.append_more_members.Goals as goal

pub loop-name-init : goal.loop-name-init
loop-name-init c =
    let names : iter_rest (zip_first c.into_iter-name-iterator.result) ≡ c.args.names.now = search rules in
    let fields : iter_rest (zip_second c.into_iter-name-iterator.result) ≡ c.args.fields.now = search rules in
    rw (names, fields) refl

pub loop-name-preserved : goal.loop-name-preserved
loop-name-preserved c =
    let more = Zip-more c.loop-name.name-iterator c.next.new.self c.next.result (c.in-Some.name, c.in-Some.field)
    c.in-Some.is c.next.ensures.steps in
    rw (c.in_ok-append_member.ensures, c.in_ok-push.ensures.items)
    (simp append_assoc (rw (more.0, more.1) at c.loop-name.invariant))

pub returns : goal.returns
returns c =
    elim (either_empty_from_Zip c.loop-name.name-iterator c.next.new.self c.next.result c.in-None.is
    c.next.ensures.steps) [
      | inl none ↦ sym (rw (none, append-nil) at c.loop-name.invariant)
      | inr none ↦ sym (rw (none, members_none, append-nil) at c.loop-name.invariant)
    ]
