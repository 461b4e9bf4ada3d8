use Rattle.std.proofs.Common.{subst, sym, List, ℕ, ◌++◌, drop, length, replicate}
use Rattle.mongo_mac.specs.TagStore.{IsZeroFilled}
use Rattle.mongo_mac.proofs.ZeroFilled.{zero_filled}
use Rattle.mongo_mac.proofs.tag.Tag.from_slice.Goals as goal

pub invariant_of-result : goal.invariant_of-result
invariant_of-result c =
    let n = length c.args.bytes.now in
    subst (λ (front : List ℕ). IsZeroFilled (front ++ drop n (replicate 32 0)) n)
    (sym c.copy_from_slice.ensures.after) (zero_filled c.args.bytes.now c.requires)
