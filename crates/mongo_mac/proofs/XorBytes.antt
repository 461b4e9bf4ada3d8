-- The XOR of two lists, one byte further, and its length.
use Rattle.std.proofs.Common.{◌≡◌, ◌<◌, ◌+◌, ℕ, zero, suc, List, [], ◌∷◌, ◌++◌, take, drop, length, replicate, get_or, refl, ap, sym, arith}
use Rattle.std.specs.Prelude.{bit_xor}
use Rattle.mongo_mac.specs.Bytes.{xor_bytes}

pub length-xor_bytes : (xs ys : List ℕ) → length xs ≡ length ys →
    length (xor_bytes xs ys) ≡ length xs
unfolding xor_bytes
length-xor_bytes [] ys same = refl
length-xor_bytes (x ∷ xs) [] same = absurd (omega arith)
length-xor_bytes (x ∷ xs) (y ∷ ys) same =
    let tails : length xs ≡ length ys = omega arith in ap suc (length-xor_bytes xs ys tails)

xor_bytes-take_suc : (xs ys : List ℕ) (i : ℕ) → i < length xs → i < length ys →
    xor_bytes (take (suc i) xs) (take (suc i) ys)
    ≡ xor_bytes (take i xs) (take i ys) ++ bit_xor (get_or xs i 0) (get_or ys i 0) ∷ []
unfolding xor_bytes
xor_bytes-take_suc [] ys i left right = absurd (omega arith)
xor_bytes-take_suc (x ∷ xs) [] i left right = absurd (omega arith)
xor_bytes-take_suc (x ∷ xs) (y ∷ ys) zero left right = refl
xor_bytes-take_suc (x ∷ xs) (y ∷ ys) (suc i) left right =
    let in_left : i < length xs = omega arith in
    let in_right : i < length ys = omega arith in
    ap (λ rest. bit_xor x y ∷ rest) (xor_bytes-take_suc xs ys i in_left in_right)

-- one byte more
pub xor_bytes_more : (xs ys : List ℕ) (i : ℕ) → i < length xs → i < length ys →
    xor_bytes (take (i + 1) xs) (take (i + 1) ys)
    ≡ xor_bytes (take i xs) (take i ys) ++ bit_xor (get_or xs i 0) (get_or ys i 0) ∷ []
xor_bytes_more xs ys i left right =
    let next : i + 1 ≡ suc i = omega arith in
    rw next (xor_bytes-take_suc xs ys i left right)

pub take-xor_bytes : (n : ℕ) (xs ys : List ℕ) →
    take n (xor_bytes xs ys) ≡ xor_bytes (take n xs) (take n ys)
unfolding xor_bytes
take-xor_bytes zero xs ys = refl
take-xor_bytes (suc n) [] ys = refl
take-xor_bytes (suc n) (x ∷ xs) [] = refl
take-xor_bytes (suc n) (x ∷ xs) (y ∷ ys) = ap (λ rest. bit_xor x y ∷ rest) (take-xor_bytes n xs ys)

xor_bytes-nil : (xs : List ℕ) → xor_bytes xs [] ≡ []
unfolding xor_bytes
xor_bytes-nil [] = refl
xor_bytes-nil (x ∷ xs) = refl

pub drop-xor_bytes : (n : ℕ) (xs ys : List ℕ) →
    drop n (xor_bytes xs ys) ≡ xor_bytes (drop n xs) (drop n ys)
unfolding xor_bytes
drop-xor_bytes zero xs ys = refl
drop-xor_bytes (suc n) [] ys = refl
drop-xor_bytes (suc n) (x ∷ xs) [] = sym (xor_bytes-nil (drop n xs))
drop-xor_bytes (suc n) (x ∷ xs) (y ∷ ys) = drop-xor_bytes n xs ys

pub xor_bytes-zeros : (n : ℕ) → xor_bytes (replicate n 0) (replicate n 0) ≡ replicate n 0
unfolding xor_bytes
xor_bytes-zeros zero = refl
xor_bytes-zeros (suc n) = ap (λ rest. 0 ∷ rest) (xor_bytes-zeros n)
