-- A message cut at its commas has one first part, one second and one third.
use Rattle.std.proofs.Common.{◌≡◌, ◌≢◌, ◌⊎◌, ◌<◌, ℕ, suc, List, [], ◌∷◌, ◌++◌, Option, Some, None, length, get_or, refl, ap, sym, subst, ◌∙◌, inl, inr, arith, MatchOption, Bor}
use Rattle.std.proofs.lemmas.Str.Pattern.{IsSplitOnceResult, split_parts}
use Rattle.base64.specs.GeneralPurpose.{IsBytes}
use Rattle.mongo_wire.specs.declared.auth_fault.AuthFault.TheVariants.{Malformed}
use Rattle.mongo_scram.specs.Attributes.{iteration_count_attribute, nonce_attribute, salt_attribute}
use Rattle.mongo_scram.specs.Base64.{base64_of}
use Rattle.mongo_scram.specs.ServerMessages.{HasNo, BeginsWithParts, IsBeforeComma, ServerFirstTextRow}

-- ---- one cut

has_no : (byte : ℕ) (bytes : List ℕ) → ((i : ℕ) → i < length bytes → get_or bytes i 0 ≢ byte) → HasNo byte bytes
has_no byte [] none = tt
has_no byte (other ∷ bytes) none = (none 0 (omega arith), has_no byte bytes (λ i within. none (suc i) (omega arith)))

pub cut_by : (byte : ℕ) (text : List ℕ) (r : Option (Bor (List ℕ) × Bor (List ℕ))) → byte < 128 → IsSplitOnceResult byte text r
    → MatchOption r (HasNo byte text) (λ p. HasNo byte p.0.now × (text ≡ p.0.now ++ (byte ∷ p.1.now)))
cut_by byte text None ascii is = has_no byte text (split_parts byte text None is ascii)
cut_by byte text (Some p) ascii is = let parts = split_parts byte text (Some p) is ascii in (has_no byte p.0.now parts.1, parts.0)

has_comma : (front rest : List ℕ) → HasNo 0x2C (front ++ (0x2C ∷ rest)) → ⊥
has_comma [] rest none = none.0 refl
has_comma (byte ∷ front) rest none = has_comma front rest none.1

pub no_cut : (text front rest : List ℕ) → HasNo 0x2C text → text ≡ front ++ (0x2C ∷ rest) → ⊥
no_cut text front rest none is = has_comma front rest (subst (HasNo 0x2C) is none)

pub heads : (a b : ℕ) (x y : List ℕ) → a ∷ x ≡ b ∷ y → a ≡ b
heads a b x y is = cc

pub tails : (a b : ℕ) (x y : List ℕ) → a ∷ x ≡ b ∷ y → x ≡ y
tails a b x y is = cc

pub one_cut : (a b x y : List ℕ) → HasNo 0x2C a → HasNo 0x2C b → a ++ (0x2C ∷ x) ≡ b ++ (0x2C ∷ y) → (a ≡ b) × (x ≡ y)
one_cut [] [] x y p q is = (refl, tails 0x2C 0x2C x y is)
one_cut [] (c ∷ b) x y p q is = absurd (q.0 (sym (heads 0x2C c x (b ++ (0x2C ∷ y)) is)))
one_cut (c ∷ a) [] x y p q is = absurd (p.0 (heads c 0x2C (a ++ (0x2C ∷ x)) y is))
one_cut (c ∷ a) (d ∷ b) x y p q is =
    let more = one_cut a b x y p.1 q.1 (tails c d (a ++ (0x2C ∷ x)) (b ++ (0x2C ∷ y)) is) in
    let first = heads c d (a ++ (0x2C ∷ x)) (b ++ (0x2C ∷ y)) is in (λ i. first i ∷ more.0 i, more.1)

-- ---- the last part

abbrev EndsPart : List ℕ → Type 0
EndsPart rest = (rest ≡ []) ⊎ ((more : List ℕ) × (rest ≡ 0x2C ∷ more))

not_ended : (c : ℕ) (b rest : List ℕ) → c ≢ 0x2C → EndsPart rest → rest ≡ c ∷ b → ⊥
not_ended c b rest other (inl none) is = let never : [] ≡ c ∷ b = sym none ∙ is in absurd (cc)
not_ended c b rest other (inr more) is = other (sym (heads 0x2C c more.0 b (sym more.1 ∙ is)))

one_front : (a b x y : List ℕ) → HasNo 0x2C a → HasNo 0x2C b → EndsPart x → EndsPart y → a ++ x ≡ b ++ y → a ≡ b
one_front [] [] x y p q m n is = refl
one_front [] (c ∷ b) x y p q m n is = absurd (not_ended c (b ++ y) x q.0 m is)
one_front (c ∷ a) [] x y p q m n is = absurd (not_ended c (a ++ x) y p.0 n (sym is))
one_front (c ∷ a) (d ∷ b) x y p q m n is =
    let first = heads c d (a ++ x) (b ++ y) is in
    let more = one_front a b x y p.1 q.1 m n (tails c d (a ++ x) (b ++ y) is) in λ i. first i ∷ more i

-- ---- three parts

pub record SameParts (a b c x y z : List ℕ) : Type 0 where
  pub first : a ≡ x
  pub second : b ≡ y
  pub third : c ≡ z

pub one_parts : (message a b c x y z : List ℕ) → BeginsWithParts message a b c → BeginsWithParts message x y z → SameParts a b c x y z
one_parts message a b c x y z p q =
    let first = one_cut a x _ _ p.first_ends q.first_ends (sym p.joined ∙ q.joined) in
    let second = one_cut b y _ _ p.second_ends q.second_ends first.1 in
    record {
      first = first.0;
      second = second.0;
      third = one_front c z p.extensions q.extensions p.third_ends q.third_ends p.extensions_are q.extensions_are second.1;
    }

pub no_first_comma : (message a b c : List ℕ) → HasNo 0x2C message → BeginsWithParts message a b c → ⊥
no_first_comma message a b c none p = no_cut message a _ none p.joined

pub no_second_comma : (message front rest a b c : List ℕ) → HasNo 0x2C front → message ≡ front ++ (0x2C ∷ rest) → HasNo 0x2C rest → BeginsWithParts message a b c → ⊥
no_second_comma message front rest a b c ends is none p =
    let first = one_cut front a rest _ ends p.first_ends (sym is ∙ p.joined) in
    no_cut rest b _ none first.1

pub three : (message first rest second more third : List ℕ) → HasNo 0x2C first → message ≡ first ++ (0x2C ∷ rest) → HasNo 0x2C second → rest ≡ second ++ (0x2C ∷ more) → IsBeforeComma more third → BeginsWithParts message first second third
three message first rest second more third first_ends is second_ends rest_is last = record {
  extensions = last.extensions;
  joined = is ∙ ap (λ x. first ++ (0x2C ∷ x)) (rest_is ∙ ap (λ x. second ++ (0x2C ∷ x)) last.joined);
  first_ends = first_ends;
  second_ends = second_ends;
  third_ends = last.part_ends;
  extensions_are = last.extensions_are;
}

-- ---- the rows of a server first message

module _ (message a b c : List ℕ) (parts : BeginsWithParts message a b c) where
  pub no_nonce : ((value : List ℕ) → a ≢ nonce_attribute ++ value) → ServerFirstTextRow message Malformed
  no_nonce none = inl (refl, λ nonce salt count f. none nonce (one_parts message a b c _ _ _ parts f.parts).first)

  pub no_salt : ((value : List ℕ) → b ≢ salt_attribute ++ value) → ServerFirstTextRow message Malformed
  no_salt none = inl (refl, λ nonce salt count f. none (base64_of salt) (one_parts message a b c _ _ _ parts f.parts).second)

  pub no_base64 : (text : List ℕ) → b ≡ salt_attribute ++ text → ((bytes : List ℕ) → IsBytes bytes → text ≢ base64_of bytes) → ServerFirstTextRow message Malformed
  no_base64 text is none = inl (refl, λ nonce salt count f. none salt f.bytes (same_rest text (base64_of salt) (sym is ∙ (one_parts message a b c _ _ _ parts f.parts).second)))
    where
      same_rest : (x y : List ℕ) → salt_attribute ++ x ≡ salt_attribute ++ y → x ≡ y
      same_rest x y is = tails 61 61 x y (tails 115 115 (61 ∷ x) (61 ∷ y) is)

  pub no_count : ((value : List ℕ) → c ≢ iteration_count_attribute ++ value) → ServerFirstTextRow message Malformed
  no_count none = inl (refl, λ nonce salt count f. none count (one_parts message a b c _ _ _ parts f.parts).third)

pub no_parts : (message : List ℕ) → ((a b c : List ℕ) → BeginsWithParts message a b c → ⊥) → ServerFirstTextRow message Malformed
no_parts message none = inl (refl, λ nonce salt count f. none _ _ _ f.parts)
