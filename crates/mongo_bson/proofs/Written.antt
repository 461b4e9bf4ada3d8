-- Bytes that are written one after another.
use Rattle.std.proofs.Common.{◌≡◌, ℕ, List, ◌++◌, length, take, drop, sym, ap, ◌∙◌}
use Rattle.std.proofs.Math.Seq.{take-append_seam, take-length}
use Rattle.std.proofs.lemmas.List.{append_assoc, take-append-drop}

pub after_two : (old x y a b : List ℕ) → x ≡ old ++ a → y ≡ x ++ b → y ≡ old ++ (a ++ b)
after_two old x y a b first second = second ∙ ap (λ w. w ++ b) first ∙ append_assoc old a b

-- what was there stays
pub stays : (old new : List ℕ) → new ≡ old → take (length old) new ≡ old
stays old new same = ap (take (length old)) same ∙ take-length old

pub stays_before : (old new more : List ℕ) → new ≡ old ++ more → take (length old) new ≡ old
stays_before old new more same = ap (take (length old)) same ∙ take-append_seam old more

-- also where more stays that was written after it
pub stays_through : (old mid new more : List ℕ) → mid ≡ old ++ more → take (length mid) new ≡ mid → take (length old) new ≡ old
stays_through old mid new more grown stayed =
    let rest = drop (length mid) new in
    stays_before old new (more ++ rest) (sym (take-append-drop (length mid) new) ∙ ap (λ w. w ++ rest) (stayed ∙ grown) ∙ append_assoc old more rest)
