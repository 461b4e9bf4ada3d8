use Rattle.std.proofs.Common.{◌++◌, ◌∷◌, [], ap, ◌∙◌}
use Rattle.std.proofs.lemmas.List.{append_assoc}
use Rattle.mongo_bson.specs.Value.{bytes_of}
use Rattle.mongo_bson.proofs.Written.{after_two, stays, stays_before, stays_through}
use Rattle.mongo_bson.proofs.writing.write_after.Goals as goal

pub returns-clause-added : goal.returns-clause-added
returns-clause-added c =
    let old = c.args.out.now.items in
    let key = c.args.key.now in
    let value = bytes_of c.args.value in
    let room = ap (λ w. w ++ c.as_bytes.result.now) c.make_room.ensures.unchanged ∙ ap (λ w. old ++ w) c.as_bytes.ensures.value in
    let keyed = after_two old _ _ key (0 ∷ []) (c.in_ok-extend_from_slice.ensures.items ∙ room) c.in_ok-push.ensures.items in
    let valued = after_two old _ _ (key ++ 0 ∷ []) value keyed c.in_ok-write_value.ensures.added in
    let ended = after_two old _ _ ((key ++ 0 ∷ []) ++ value) (0 ∷ []) valued c.in_ok-push-2.ensures.items in
    ended ∙ ap (λ w. old ++ w) (append_assoc (key ++ 0 ∷ []) value (0 ∷ []) ∙ append_assoc key (0 ∷ []) (value ++ 0 ∷ []))

pub returns-clause-kept : goal.returns-clause-kept
returns-clause-kept c = stays_before c.args.out.now.items _ _ (returns-clause-added c)

pub returns-in_err-make_room-clause-kept : goal.returns-in_err-make_room-clause-kept
returns-in_err-make_room-clause-kept c = stays c.args.out.now.items _ c.make_room.ensures.unchanged

pub returns-in_err-extend_from_slice-clause-kept : goal.returns-in_err-extend_from_slice-clause-kept
returns-in_err-extend_from_slice-clause-kept c =
    stays c.args.out.now.items _ (c.in_err-extend_from_slice.ensures.items ∙ c.make_room.ensures.unchanged)

pub returns-in_err-push-clause-kept : goal.returns-in_err-push-clause-kept
returns-in_err-push-clause-kept c =
    let written = c.in_ok-extend_from_slice.ensures.items ∙ ap (λ w. w ++ c.as_bytes.result.now) c.make_room.ensures.unchanged in
    stays_before c.args.out.now.items _ _ (c.in_err-push.ensures.items ∙ written)

pub returns-in_err-write_value-clause-kept : goal.returns-in_err-write_value-clause-kept
returns-in_err-write_value-clause-kept c =
    let old = c.args.out.now.items in
    let written = c.in_ok-extend_from_slice.ensures.items ∙ ap (λ w. w ++ c.as_bytes.result.now) c.make_room.ensures.unchanged in
    stays_through old _ _ _ (after_two old _ _ _ _ written c.in_ok-push.ensures.items) c.in_err-write_value.ensures.kept

pub returns-in_err-push-2-clause-kept : goal.returns-in_err-push-2-clause-kept
returns-in_err-push-2-clause-kept c =
    let old = c.args.out.now.items in
    let written = c.in_ok-extend_from_slice.ensures.items ∙ ap (λ w. w ++ c.as_bytes.result.now) c.make_room.ensures.unchanged in
    let keyed = after_two old _ _ _ _ written c.in_ok-push.ensures.items in
    stays_before old _ _ (c.in_err-push-2.ensures.items ∙ after_two old _ _ _ _ keyed c.in_ok-write_value.ensures.added)
