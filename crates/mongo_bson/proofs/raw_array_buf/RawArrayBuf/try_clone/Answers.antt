use Rattle.std.proofs.Common.{◌≤◌, length, sym, subst}
use Rattle.mongo_bson.specs.Framed.{IsFramed}
use Rattle.mongo_bson.specs.Array.{IsArray}
use Rattle.mongo_bson.proofs.raw_array_buf.RawArrayBuf.try_clone.Goals as goal

pub invariant_of-result : goal.invariant_of-result
invariant_of-result c =
    let array = c.args.self.now in
    let same = sym c.in_ok-try_clone.ensures.copied in
    record {
      within = subst (λ d. array.count ≤ length d) same array.within;
      framed = subst IsFramed same array.framed;
      numbered = subst (λ d. IsArray d array.count) same array.numbered;
    }
