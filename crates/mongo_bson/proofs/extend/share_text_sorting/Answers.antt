use Rattle.mongo_bson.specs.Keys.{bytes_of_texts}
use Rattle.mongo_bson.proofs.Searched.{common_moved, common_moved_back}
use Rattle.mongo_bson.proofs.extend.share_text_sorting.Goals as goal

pub returns : goal.returns
returns c =
    let before = c.args.texts.now in
    let after = c.sort_unstable.new.self in
    let others = bytes_of_texts c.args.others.now in
    let moved = c.sort_unstable.ensures.permutation in
    let test = c.share_text_with_sorted.ensures in
    (λ yes. common_moved_back before after others moved (test.0 yes), λ common. test.1 (common_moved before after others moved common))
