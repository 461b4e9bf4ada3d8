use Rattle.std.proofs.Common.{◌++◌, ◌∷◌, [], ap, ◌∙◌}
use Rattle.mongo_bson.proofs.Written.{after_two, stays, stays_before}
use Rattle.mongo_bson.proofs.writing.write_rest.Goals as goal

pub returns-clause-added : goal.returns-clause-added
returns-clause-added c =
    let bytes = c.args.bytes.now in
    let written = c.in_ok-extend_from_slice.ensures.items ∙ ap (λ w. w ++ bytes) c.make_room.ensures.unchanged in
    after_two c.args.out.now.items _ _ bytes (0 ∷ []) written c.in_ok-push.ensures.items

pub returns-clause-kept : goal.returns-clause-kept
returns-clause-kept c = stays_before c.args.out.now.items _ _ (returns-clause-added c)

pub returns-in_err-make_room-clause-kept : goal.returns-in_err-make_room-clause-kept
returns-in_err-make_room-clause-kept c = stays c.args.out.now.items _ c.make_room.ensures.unchanged

pub returns-in_err-extend_from_slice-clause-kept : goal.returns-in_err-extend_from_slice-clause-kept
returns-in_err-extend_from_slice-clause-kept c =
    stays c.args.out.now.items _ (c.in_err-extend_from_slice.ensures.items ∙ c.make_room.ensures.unchanged)

pub returns-in_err-push-clause-kept : goal.returns-in_err-push-clause-kept
returns-in_err-push-clause-kept c =
    let bytes = c.args.bytes.now in
    let written = c.in_ok-extend_from_slice.ensures.items ∙ ap (λ w. w ++ bytes) c.make_room.ensures.unchanged in
    stays_before c.args.out.now.items _ _ (c.in_err-push.ensures.items ∙ written)
