-- What is recorded of a link stays what was written to it and taken of it.
use Rattle.std.proofs.Common.{◌≡◌, ℕ, ◌+◌, ◌-◌, ◌^◌, ◌≤◌, ◌∙◌, ap, sym, subst, refl, arith, Option, None, Some, Result, Ok, Err, List, ◌++◌, length, take, length-append, append_assoc, IfOk}
use Rattle.std.specs.Prelude.{min, is_some}
use Rattle.std.proofs.lemmas.List.{length-take-le}
use Rattle.std.proofs.Math.Seq.{take-append-add, take-append_seam}
use Rattle.std.specs.Io.KnownBytes.{append_known, Appends, Consumes, Keeps, ReadConsumes}
use Rattle.mongo_connect.specs.Recording.{IsTakenCount, given_count}

-- a front of a piece was written after what was recorded
pub kept_more : (origin old new : Option (List ℕ)) (recorded piece all : List ℕ) (n : ℕ) → old ≡ append_known origin recorded → is_some new ≡ is_some old → Appends old new (take n piece) → all ≡ take (length recorded + n) (recorded ++ piece) → new ≡ append_known origin all
kept_more None (Some bytes) new recorded piece all n kept tells grown is = cc
kept_more None None None recorded piece all n kept tells grown is = refl
kept_more None None (Some more) recorded piece all n kept tells grown is = cc
kept_more (Some front) None new recorded piece all n kept tells grown is = cc
kept_more (Some front) (Some bytes) None recorded piece all n kept tells grown is = cc
kept_more (Some front) (Some bytes) (Some more) recorded piece all n kept tells grown is =
    let e : bytes ≡ front ++ recorded = cc in
    ap Some (grown ∙ ap (λ b. b ++ take n piece) e ∙ append_assoc front recorded (take n piece) ∙ ap (λ r. front ++ r) (sym (is ∙ take-append-add recorded piece n)))

-- nothing was written
pub kept_still : (origin old new : Option (List ℕ)) (recorded piece all : List ℕ) → old ≡ append_known origin recorded → is_some new ≡ is_some old → Keeps old new → all ≡ take (length recorded) (recorded ++ piece) → new ≡ append_known origin all
kept_still None (Some bytes) new recorded piece all kept tells still is = cc
kept_still None None None recorded piece all kept tells still is = refl
kept_still None None (Some more) recorded piece all kept tells still is = cc
kept_still (Some front) None new recorded piece all kept tells still is = cc
kept_still (Some front) (Some bytes) None recorded piece all kept tells still is = cc
kept_still (Some front) (Some bytes) (Some more) recorded piece all kept tells still is =
    let e : bytes ≡ front ++ recorded = cc in
    ap Some (still ∙ e ∙ ap (λ r. front ++ r) (sym (is ∙ take-append_seam recorded piece)))

-- some bytes more were taken
pub counted_more : (origin old new : Option (List ℕ)) (gone : List ℕ) (count n sum : ℕ) → IsTakenCount origin old count → is_some new ≡ is_some old → Consumes old new gone → length gone ≡ n → sum ≡ min (count + n) (2 ^ 64 - 1) → IsTakenCount origin new sum
counted_more origin None new gone count n sum counted tells consumed long is bytes rest o s = cc
counted_more origin (Some mid) None gone count n sum counted tells consumed long is bytes rest o s = cc
counted_more origin (Some mid) (Some last) gone count n sum counted tells consumed long is bytes rest o s =
    let before = counted bytes mid o refl in
    let same : last ≡ rest = cc in
    let parts : length mid ≡ length gone + length last = ap length consumed ∙ length-append gone last in
    let end : length last ≡ length rest = ap length same in
    (omega arith, omega arith)

-- none were taken
pub counted_still : (origin old new : Option (List ℕ)) (count : ℕ) → IsTakenCount origin old count → is_some new ≡ is_some old → Keeps old new → IsTakenCount origin new count
counted_still origin None new count counted tells still bytes rest o s = cc
counted_still origin (Some mid) None count counted tells still bytes rest o s = cc
counted_still origin (Some mid) (Some last) count counted tells still bytes rest o s =
    counted bytes rest o (ap Some (sym still) ∙ s)

-- a read was made
pub counted_read : {E : Type 0} (origin old new : Option (List ℕ)) (buf : List ℕ) (r : Result ℕ E) (count sum : ℕ) → IsTakenCount origin old count → is_some new ≡ is_some old → ReadConsumes old new r buf → IfOk r (λ n. n ≤ length buf) → sum ≡ min (count + given_count r) (2 ^ 64 - 1) → count ≤ 2 ^ 64 - 1 → IsTakenCount origin new sum
counted_read origin old new buf (Ok n) count sum counted tells consumed most is fits = counted_more origin old new (take n buf) count n sum counted tells consumed.0 (length-take-le n buf most) is
counted_read origin old new buf (Err e) count sum counted tells still most is fits =
    let same : sum ≡ count = omega arith in
    subst (IsTakenCount origin new) (sym same) (counted_still origin old new count counted tells still)
