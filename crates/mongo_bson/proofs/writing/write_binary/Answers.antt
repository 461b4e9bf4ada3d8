use Rattle.std.proofs.Common.{◌++◌, ◌∷◌, [], length, ap, ◌∙◌}
use Rattle.std.specs.Int.{to_le_bytes, w32}
use Rattle.mongo_bson.proofs.Written.{after_two, stays, stays_before}
use Rattle.mongo_bson.proofs.writing.write_binary.Goals as goal

pub returns-clause-added : goal.returns-clause-added
returns-clause-added c =
    let old = c.args.out.now.items in
    let field = to_le_bytes w32 (length c.args.content.now) in
    let subtype = c.args.subtype ∷ [] in
    let counted = c.in_ok-extend_from_slice.ensures.items ∙ ap (λ w. old ++ w) c.to_le_bytes.ensures in
    let typed = after_two old _ _ field subtype counted c.in_ok-push.ensures.items in
    after_two old _ _ (field ++ subtype) c.args.content.now typed c.in_ok-extend_from_slice-2.ensures.items

pub returns-clause-kept : goal.returns-clause-kept
returns-clause-kept c = stays_before c.args.out.now.items _ _ (returns-clause-added c)

pub returns-in_err-extend_from_slice-clause-kept : goal.returns-in_err-extend_from_slice-clause-kept
returns-in_err-extend_from_slice-clause-kept c = stays c.args.out.now.items _ c.in_err-extend_from_slice.ensures.items

pub returns-in_err-push-clause-kept : goal.returns-in_err-push-clause-kept
returns-in_err-push-clause-kept c =
    stays_before c.args.out.now.items _ _ (c.in_err-push.ensures.items ∙ c.in_ok-extend_from_slice.ensures.items)

pub returns-in_err-extend_from_slice-2-clause-kept : goal.returns-in_err-extend_from_slice-2-clause-kept
returns-in_err-extend_from_slice-2-clause-kept c =
    let old = c.args.out.now.items in
    let typed = after_two old _ _ _ _ c.in_ok-extend_from_slice.ensures.items c.in_ok-push.ensures.items in
    stays_before old _ _ (c.in_err-extend_from_slice-2.ensures.items ∙ typed)
