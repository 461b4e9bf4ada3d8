-- A user name character by character: the bytes of a character past ASCII are none that is escaped.
use Rattle.std.proofs.Common.{◌≡◌, ◌≢◌, ◌+◌, ◌≤◌, ℕ, Bool, true, false, cond, List, [], ◌∷◌, ◌++◌, encode_utf8, refl, ap, sym, ◌∙◌, append_assoc, ltb, arith, ne_eqb}
use Rattle.std.specs.List.{AllByRecursion}
use Rattle.std.proofs.lemmas.Grind.{flat_map-append}
use lib.Utf8.{encode}
use Rattle.mongo_scram.specs.UserName.{escaped, escaped_byte}

-- a byte that stays as it is
abbrev pub IsPlain : ℕ → Type 0
IsPlain byte = (byte ≢ 0x3D) × (byte ≢ 0x2C)

pub escaped_byte-plain : (byte : ℕ) → IsPlain byte → escaped_byte byte ≡ byte ∷ []
escaped_byte-plain byte plain = rw (ne_eqb byte 0x3D plain.0, ne_eqb byte 0x2C plain.1) refl

pub escaped-plain : (bytes : List ℕ) → AllByRecursion IsPlain bytes → escaped bytes ≡ bytes
escaped-plain [] plain = refl
escaped-plain (byte ∷ bytes) plain = rw (escaped_byte-plain byte plain.0) (ap (λ rest. byte ∷ rest) (escaped-plain bytes plain.1))

cond-all : (test : Bool) (xs ys : List ℕ) → AllByRecursion IsPlain xs → AllByRecursion IsPlain ys → AllByRecursion IsPlain (cond test xs ys)
cond-all true xs ys here there = here
cond-all false xs ys here there = there

above : (least byte : ℕ) → 62 ≤ least → IsPlain (least + byte)
above least byte high = (λ is. absurd (omega arith), λ is. absurd (omega arith))

pub encode-plain : (c : ℕ) → IsPlain c → AllByRecursion IsPlain (encode c)
unfolding encode
encode-plain c plain =
    cond-all (ltb c 128) _ _ (plain, tt)
    (cond-all (ltb c 2048) _ _ (above 192 _ (omega arith), (above 128 _ (omega arith), tt))
    (cond-all (ltb c 65536) _ _ (above 224 _ (omega arith), (above 128 _ (omega arith), (above 128 _ (omega arith), tt)))
    (above 240 _ (omega arith), (above 128 _ (omega arith), (above 128 _ (omega arith), (above 128 _ (omega arith), tt))))))

pub other_character : (c : ℕ) → c ≢ 0x3D → c ≢ 0x2C → escaped (encode_utf8 c) ≡ encode_utf8 c
other_character c not_equals not_comma = escaped-plain (encode c) (encode-plain c (not_equals, not_comma))

-- one character more
pub escaped_more : (before left rest all : List ℕ) (c : ℕ) → left ≡ encode_utf8 c ++ rest → before ++ escaped left ≡ all → (before ++ escaped (encode_utf8 c)) ++ escaped rest ≡ all
escaped_more before left rest all c left_is so_far =
    append_assoc before (escaped (encode_utf8 c)) (escaped rest)
    ∙ ap (λ more. before ++ more) (sym (flat_map-append escaped_byte (encode_utf8 c) rest))
    ∙ ap (λ more. before ++ escaped more) (sym left_is)
    ∙ so_far
