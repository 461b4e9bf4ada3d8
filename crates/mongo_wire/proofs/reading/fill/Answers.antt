use Rattle.std.proofs.Common.{rules, arith, ◌≡◌, ℕ, ◌+◌, ◌≤◌, ◌<◌, List, ◌++◌, length, take, subst, sym, ap, ◌∙◌}
use Rattle.std.proofs.lemmas.List.{length-take-le, take-append-le}
use Rattle.std.proofs.Math.Seq.{take-append-add}
use Rattle.std.proofs.KnownBytes.{Consumes-trans, Consumes-kept}
use Rattle.std.specs.Io.KnownBytes.{Consumes}
use Rattle.mongo_wire.proofs.ReadStopped.{fails_after}
use Rattle.mongo_wire.proofs.reading.fill.Goals as goal

-- what a read put behind the front is the next part of it
grown : (at n : ℕ) (xs ys more : List ℕ) → at ≤ length xs → n ≤ length ys → take at xs ++ take n ys ≡ take (at + n) (take at xs ++ (ys ++ more))
grown at n xs ys more p q =
    let front = length-take-le at xs p in
    ap (λ l. take at xs ++ l) (sym (take-append-le n ys more q)) ∙ sym (take-append-add (take at xs) (ys ++ more) n) ∙ ap (λ m. take (m + n) (take at xs ++ (ys ++ more))) front

pub filling-preserved : goal.filling-preserved
filling-preserved g c = record {
  within = search rules;
  front = subst (Consumes _ _) (grown c.filling.at c.in-Ok.count c.filling.buf c.read.new.buf _ c.filling.invariant.within c.in-Ok.ensures.most) (Consumes-trans _ _ _ _ _ c.filling.invariant.front c.in-Ok.ensures.bytes.0);
  still = search rules;
  on = search rules;
}

pub returns-in-Err-clause-refused : goal.returns-in-Err-clause-refused
returns-in-Err-clause-refused g c =
    let taken = take c.filling.at c.filling.buf in
    let short : length taken < length c.args.buf.now = omega (arith, length-take-le c.filling.at c.filling.buf c.filling.invariant.within, c.filling-test.true) in
    (fails_after _ _ _ c.filling.invariant.still (record { reads = c.in-Err.ensures.failed; ends = c.in-Err.ensures.exact }), (taken, short, Consumes-kept _ _ _ taken c.filling.invariant.front c.in-Err.ensures.bytes))
