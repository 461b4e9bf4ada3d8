use Rattle.std.proofs.Common.{ℕ, List, ◌++◌, ap, ◌∙◌, drop, length, replicate}
use Rattle.std.proofs.lemmas.List.{drop-replicate}
use Rattle.mongo_mac.proofs.block.zero_filled.Goals as goal

pub returns : goal.returns
returns c =
    let key = c.args.key.now in
    ap (λ (front : List ℕ). front ++ drop (length key) (replicate 64 0)) c.copy_from_slice.ensures.after
    ∙ ap (λ (zeros : List ℕ). key ++ zeros) (drop-replicate (length key) 64 0)
