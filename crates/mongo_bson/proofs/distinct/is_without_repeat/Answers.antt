use Rattle.mongo_bson.proofs.Apart.{apart_moved, apart_moved_back}
use Rattle.mongo_bson.proofs.distinct.is_without_repeat.Goals as goal

pub returns : goal.returns
returns c =
    let before = c.args.texts.now in
    let after = c.sort_unstable.new.self in
    let moved = c.sort_unstable.ensures.permutation in
    (λ true. apart_moved_back before after moved (c.is_each_new.ensures.0 true), λ apart. c.is_each_new.ensures.1 (apart_moved before after moved apart))
