-- The keys of the logins of numbers come again after 210 of them, and not before.
use Rattle.std.proofs.Common.{◌≡◌, ℕ, ◌+◌, ◌*◌, ◌%◌, ◌<◌, ◌==◌, Bool, true, false, inl, inr, List, ◌∷◌, [], ◌++◌, replicate, get_or, codes, decimal, if◌then◌else◌, refl, sym, ap, ◌∙◌, arith}
use Rattle.std.proofs.lemmas.Bool.{cases_lt}
use Rattle.std.proofs.lemmas.Bool.Decides.{Decides-eqb}
use Rattle.std.proofs.lemmas.Fmt.{decimal_digit}
use Rattle.mongo_scram.specs.declared.cache.SaltedKey.{SaltedKey}
use Rattle.mongo_scram.specs.declared.scram_version.ScramVersion.{ScramVersion}
use Rattle.mongo_scram.specs.declared.scram_version.ScramVersion.TheVariants.{Sha1, Sha256}
use Rattle.mongo_generate.specs.Generated.{authentication_at, key_count}
use Rattle.mongo_generate.specs.Login.{key_of}

-- the key of the login of a number
abbrev pub key_at : ℕ → SaltedKey
key_at k = key_of (authentication_at k)

-- by what is left of it modulo 2, 7, 3 and 5
abbrev key_by_remainders : ℕ → ℕ → ℕ → ℕ → SaltedKey
key_by_remainders two seven three five = record {
  version = if two == 0 then Sha1 else Sha256;
  username = codes "u" ++ decimal seven;
  password = codes "p" ++ decimal three;
  salt = replicate 16 five;
  count = 4096;
}

-- ---- a key tells what is left

same_test : (s t : Bool) → ◌≡◌ {A = ScramVersion} (if s then Sha1 else Sha256) (if t then Sha1 else Sha256) → s ≡ t
same_test true true same = refl
same_test true false same = let none : ◌≡◌ {A = ScramVersion} Sha1 Sha256 = same in cc
same_test false true same = let none : ◌≡◌ {A = ScramVersion} Sha256 Sha1 = same in cc
same_test false false same = refl

same_parity : (a b : ℕ) → a < 2 → b < 2 → (a == 0) ≡ (b == 0) → a ≡ b
same_parity a b p q same =
    elim (cases_lt a 1) [
      | inl none ↦
          let zero_a : a ≡ 0 = omega arith in
          let zero_b : b ≡ 0 = (Decides-eqb b 0).0 (sym same ∙ (Decides-eqb a 0).1 zero_a) in
          omega arith
      | inr some ↦ elim (cases_lt b 1) [
        | inl none ↦
            let zero_b : b ≡ 0 = omega arith in
            let zero_a : a ≡ 0 = (Decides-eqb a 0).0 (same ∙ (Decides-eqb b 0).1 zero_b) in
            absurd (omega arith)
        | inr also ↦ omega arith
      ]
    ]

same_version : (a b : ℕ) → a < 2 → b < 2 → ◌≡◌ {A = ScramVersion} (if a == 0 then Sha1 else Sha256) (if b == 0 then Sha1 else Sha256) → a ≡ b
same_version a b p q same = same_parity a b p q (same_test (a == 0) (b == 0) same)

same_digit : (letter a b : ℕ) → a < 10 → b < 10 → letter ∷ decimal a ≡ letter ∷ decimal b → a ≡ b
same_digit letter a b p q same =
    let digits : letter ∷ (48 + a) ∷ [] ≡ letter ∷ (48 + b) ∷ [] = ap (λ l. letter ∷ l) (sym (decimal_digit a p)) ∙ same ∙ ap (λ l. letter ∷ l) (decimal_digit b q) in
    let digit : 48 + a ≡ 48 + b = ap (λ (l : List ℕ). get_or l 1 0) digits in
    omega arith

pub same_rest : (a b : ℕ) → key_at a ≡ key_at b → a % 210 ≡ b % 210
same_rest a b same =
    let two = same_version (a % 2) (b % 2) (omega arith) (omega arith) (ap (λ (k : SaltedKey). k.version) same) in
    let seven = same_digit 117 (a % 7) (b % 7) (omega arith) (omega arith) (ap (λ (k : SaltedKey). k.username) same) in
    let three = same_digit 112 (a % 3) (b % 3) (omega arith) (omega arith) (ap (λ (k : SaltedKey). k.password) same) in
    let five : a % 5 ≡ b % 5 = ap (λ (k : SaltedKey). get_or k.salt 0 0) same in
    joined a ∙ (λ i. (105 * two i + 70 * three i + 126 * five i + 120 * seven i) % 210) ∙ sym (joined b)
  where
    joined : (k : ℕ) → k % 210 ≡ (105 * (k % 2) + 70 * (k % 3) + 126 * (k % 5) + 120 * (k % 7)) % 210
    joined k = omega arith

-- ---- and comes again

pub same_again : (k : ℕ) → key_at k ≡ key_at (k + key_count)
same_again k = λ i. key_by_remainders (two i) (seven i) (three i) (five i) where
  two : k % 2 ≡ (k + 210) % 2
  two = omega arith

  seven : k % 7 ≡ (k + 210) % 7
  seven = omega arith

  three : k % 3 ≡ (k + 210) % 3
  three = omega arith

  five : k % 5 ≡ (k + 210) % 5
  five = omega arith
