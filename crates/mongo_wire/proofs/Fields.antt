-- Numbers that stand in bytes, and the bytes that spell them.
use Rattle.std.proofs.Common.{◌≡◌, ℕ, suc, zero, ◌+◌, ◌*◌, ◌^◌, ◌<◌, ◌≤◌, List, [], ◌∷◌, ◌++◌, length, take, drop, get_or, sym, ap, ◌∙◌, FitsSigned, arith, length-drop}
use Rattle.std.proofs.lemmas.List.{length-take-le, get_or-drop, get_or-take, take_all, take-append-drop, drop-drop}
use Rattle.std.proofs.lemmas.Nat.{le_bytes_4}
use Rattle.std.proofs.lemmas.Int.{of_z-to_z}
use Rattle.std.proofs.Math.Facts.{sfits_to_z}
use Rattle.std.specs.Int.{to_le_bytes, cast_signed, w32}
use Rattle.mongo_wire.specs.Frame.{int32, uint32}
use Rattle.mongo_wire.specs.Header.{number_at}

abbrev pub IsBytes : List ℕ → Type 0
IsBytes bytes = (i : ℕ) → get_or bytes i 0 < 256

four_fit : (a b c d : ℕ) → a < 256 → b < 256 → c < 256 → d < 256 → a + b * 256 + c * 65536 + d * 16777216 < 2 ^ 32
four_fit a b c d p q r s = omega arith

pub number_fits : (at : ℕ) (bytes : List ℕ) → IsBytes bytes → number_at at bytes < 2 ^ 32
number_fits at bytes small =
    let here : (i : ℕ) → get_or (drop at bytes) i 0 < 256 = λ i. rw (get_or-drop at bytes i 0) (small (at + i)) in
    four_fit _ _ _ _ (here 0) (here 1) (here 2) (here 3)

take_small : (n : ℕ) (l : List ℕ) → IsBytes l → IsBytes (take n l)
take_small zero l small i = omega arith
take_small (suc n) [] small i = omega arith
take_small (suc n) (x ∷ l) small zero = small 0
take_small (suc n) (x ∷ l) small (suc i) = take_small n l (λ j. small (suc j)) i

drop_small : (at : ℕ) (l : List ℕ) → IsBytes l → IsBytes (drop at l)
drop_small at l small i = rw (get_or-drop at l i 0) (small (at + i))

pub signed_fits : (at : ℕ) (bytes : List ℕ) → IsBytes bytes → FitsSigned w32 (cast_signed w32 (number_at at bytes))
signed_fits at bytes small = sfits_to_z {w = w32} {n = number_at at bytes} (record { fits = number_fits at bytes small })

-- four bytes at a place spell the number that stands there
pub field : (at : ℕ) (bytes : List ℕ) → IsBytes bytes → at + 4 ≤ length bytes → uint32 (number_at at bytes) ≡ take 4 (drop at bytes)
field at bytes small p =
    let room : 4 ≤ length (drop at bytes) = omega (arith, length-drop at bytes) in
    let first = get_or-take 4 (drop at bytes) 0 0 (omega arith) in
    let second = get_or-take 4 (drop at bytes) 1 0 (omega arith) in
    let third = get_or-take 4 (drop at bytes) 2 0 (omega arith) in
    let fourth = get_or-take 4 (drop at bytes) 3 0 (omega arith) in
    le_bytes_4 (take 4 (drop at bytes)) (number_at at bytes) (length-take-le 4 (drop at bytes) room) (take_small 4 (drop at bytes) (drop_small at bytes small)) (omega arith)

pub signed_field : (at : ℕ) (bytes : List ℕ) → IsBytes bytes → at + 4 ≤ length bytes → int32 (cast_signed w32 (number_at at bytes)) ≡ take 4 (drop at bytes)
signed_field at bytes small p =
    ap (to_le_bytes w32) (of_z-to_z w32 (number_at at bytes) (number_fits at bytes small)) ∙ field at bytes small p

-- the four bytes at a place, and the rest
piece : (at : ℕ) (xs : List ℕ) → drop at xs ≡ take 4 (drop at xs) ++ drop (at + 4) xs
piece at xs = sym (take-append-drop 4 (drop at xs)) ∙ ap (λ l. take 4 (drop at xs) ++ l) (drop-drop 4 at xs)

pub fours : (head : List ℕ) → length head ≡ 16 → head ≡ take 4 head ++ (take 4 (drop 4 head) ++ (take 4 (drop 8 head) ++ take 4 (drop 12 head)))
fours head e =
    let last : drop 12 head ≡ take 4 (drop 12 head) = sym (take_all 4 (drop 12 head) (omega (arith, length-drop 12 head))) in
    piece 0 head ∙ ap (λ l. take 4 head ++ l) (piece 4 head ∙ ap (λ l. take 4 (drop 4 head) ++ l) (piece 8 head ∙ ap (λ l. take 4 (drop 8 head) ++ l) last))
