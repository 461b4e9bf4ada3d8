-- The server's first message is one that a client reads.
use Rattle.std.proofs.Common.{◌≡◌, ◌≢◌, ◌<◌, ◌^◌, ℕ, List, [], ◌∷◌, ◌++◌, get_or, decimal, refl, ap, sym, subst, ◌∙◌, inl, arith, append-nil}
use Rattle.std.specs.Int.{IsInRange}
use Rattle.std.specs.List.{AllByRecursion}
use Rattle.std.specs.Str.{IsUtf8}
use Rattle.std.specs.Str.Parse.{without_leading_plus, IsNumeral, digits_value, AllDigits}
use Rattle.std.proofs.lemmas.Fmt.{decimal_is_IsNumeral, IsAscii-decimal}
use Rattle.std.proofs.lemmas.List.Elements.{All-from_recursion, recursion_from_All}
use Rattle.std.proofs.lemmas.Str.{IsUtf8-append, IsUtf8-from_ascii}
use Rattle.std.proofs.lemmas.Str.Ascii.{IsAscii-from_all}
use Rattle.std.proofs.lemmas.Str.Parse.{digit_at, without_leading_plus_none}
use Rattle.base64.specs.Engines.{standard}
use Rattle.base64.specs.GeneralPurpose.{IsBytes}
use Rattle.base64.proofs.EngineFacts.{IsAscii-encode_of}
use Rattle.mongo_scram.specs.Attributes.{after_comma, iteration_count_attribute, nonce_attribute, salt_attribute}
use Rattle.mongo_scram.specs.Base64.{base64_of}
use Rattle.mongo_scram.specs.ServerMessages.{HasNo, IsServerFirst, IsIterationCount}
use Rattle.mongo_server.specs.ClientMessages.{IsNonce}
use Rattle.mongo_server.specs.ServerTexts.{server_first}
use Rattle.mongo_server.proofs.Base64Commas.{base64-no_comma}
use Rattle.mongo_server.proofs.ClientFirsts.{nonce_text}

nonce_no_comma : (nonce : List ℕ) → IsNonce nonce → HasNo 0x2C nonce
nonce_no_comma nonce is = recursion_from_All (λ byte. byte ≢ 0x2C) nonce (λ k d within. (is k d within).2)

-- a text of ASCII
ascii_text : (bytes : List ℕ) → AllByRecursion (λ byte. byte < 128) bytes → IsUtf8 bytes
ascii_text bytes all = IsUtf8-from_ascii bytes (IsAscii-from_all bytes (All-from_recursion (λ byte. byte < 128) bytes all))

digits_no_comma : (digits : List ℕ) → AllDigits 10 digits → HasNo 0x2C digits
digits_no_comma [] all = tt
digits_no_comma (digit ∷ digits) all =
    let range : IsInRange 48 57 digit = digit_at (digit ∷ digits) 0 all (omega arith) in
    (λ is. absurd (omega (arith, is, range.0)), digits_no_comma digits all.1)

parts_joined : (nonce salt : List ℕ) (count : ℕ) → server_first nonce salt count ≡ (nonce_attribute ++ nonce) ++ (0x2C ∷ ((salt_attribute ++ base64_of salt) ++ (0x2C ∷ ((iteration_count_attribute ++ decimal count) ++ []))))
parts_joined nonce salt count = ap (λ digits. nonce_attribute ++ (nonce ++ (after_comma salt_attribute ++ (base64_of salt ++ (after_comma iteration_count_attribute ++ digits))))) (sym (append-nil (decimal count)))

base64_text : (bytes : List ℕ) → IsUtf8 (base64_of bytes)
unfolding base64_of
base64_text bytes = IsUtf8-from_ascii (base64_of bytes) (IsAscii-encode_of standard bytes)

pub read_first : (nonce salt : List ℕ) (count : ℕ) → IsNonce nonce → IsBytes salt → count < 2 ^ 32 → IsServerFirst (server_first nonce salt count) nonce salt (decimal count)
read_first nonce salt count is_nonce bytes within =
    let numeral = (decimal_is_IsNumeral count (omega (arith, within))).0 in
    record {
      text =
          IsUtf8-append nonce_attribute (nonce ++ (after_comma salt_attribute ++ (base64_of salt ++ (after_comma iteration_count_attribute ++ decimal count)))) (ascii_text nonce_attribute (omega arith, (omega arith, tt)))
          (IsUtf8-append nonce (after_comma salt_attribute ++ (base64_of salt ++ (after_comma iteration_count_attribute ++ decimal count))) (nonce_text nonce is_nonce)
          (IsUtf8-append (after_comma salt_attribute) (base64_of salt ++ (after_comma iteration_count_attribute ++ decimal count)) (ascii_text (after_comma salt_attribute) (omega arith, (omega arith, (omega arith, tt))))
          (IsUtf8-append (base64_of salt) (after_comma iteration_count_attribute ++ decimal count) (base64_text salt)
          (IsUtf8-append (after_comma iteration_count_attribute) (decimal count) (ascii_text (after_comma iteration_count_attribute) (omega arith, (omega arith, (omega arith, tt))))
          (IsUtf8-from_ascii (decimal count) (IsAscii-decimal count (omega (arith, within))))))));
      parts = record {
        extensions = [];
        joined = parts_joined nonce salt count;
        first_ends = (λ is. absurd (omega (arith, is)), (λ is. absurd (omega (arith, is)), nonce_no_comma nonce is_nonce));
        second_ends = (λ is. absurd (omega (arith, is)), (λ is. absurd (omega (arith, is)), base64-no_comma salt));
        third_ends = (λ is. absurd (omega (arith, is)), (λ is. absurd (omega (arith, is)), digits_no_comma (decimal count) numeral.1));
        extensions_are = inl refl;
      };
      bytes = bytes;
    }

pub read_count : (count : ℕ) → count < 2 ^ 32 → IsIterationCount (decimal count) count
read_count count within =
    let both = decimal_is_IsNumeral count (omega (arith, within)) in
    let range : IsInRange 48 57 (get_or (decimal count) 0 0) = digit_at (decimal count) 0 both.0.1 both.0.0 in
    let plain : without_leading_plus (decimal count) ≡ decimal count = without_leading_plus_none (decimal count) (λ is. absurd (omega (arith, is, range.0))) in
    (subst (IsNumeral 10) (sym plain) both.0, ap (digits_value 10) plain ∙ both.1, within)
