use Rattle.std.proofs.Common.{rules, arith, ◌≡◌, ℕ, ◌+◌, ◌-◌, List, ◌++◌, length, take, drop, subst}
use Rattle.std.proofs.lemmas.Grind.{common_steps}
use Rattle.std.proofs.Math.Seq.{take-add}
use Rattle.std.proofs.KnownBytes.{Appends-trans}
use Rattle.std.specs.Io.KnownBytes.{Appends}
use Rattle.mongo_wire.proofs.writing.write_all.Goals as goal

-- what is written after the front is the next part of the bytes
grown : (at n : ℕ) (xs : List ℕ) → take at xs ++ take n (take (length xs - at) (drop at xs)) ≡ take (at + n) xs
grown at n xs = grind (arith, common_steps, take-add at n xs)

pub writing-preserved : goal.writing-preserved
writing-preserved g c = record {
  within = search rules;
  front = subst (Appends _ _) (grown c.writing.at c.in-Ok.count c.args.bytes.now) (Appends-trans _ _ _ _ _ c.writing.invariant.front c.in-Ok.ensures.bytes);
  still = search rules;
  on = search rules;
}
