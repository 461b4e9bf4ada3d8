-- Documents that are written out, as the commands and replies of a login are.
use Rattle.std.proofs.Common.{◌≡◌, ◌≢◌, ℕ, zero, suc, ℤ, ◌+◌, ◌<◌, ◌≤◌, nat_lt, ◌==◌, ◌&&◌, Bool, true, false, not, FitsSigned, List, [], ◌∷◌, length, refl, sym, ◌∙◌, false-eqb, arith}
use Rattle.std.specs.Int.{w32}
use Rattle.std.specs.List.{AllByRecursion, flat_map}
use Rattle.std.specs.Str.{IsUtf8, IsAscii, bytes_eq}
use Rattle.std.proofs.lemmas.Bool.{false≢true}
use Rattle.std.proofs.lemmas.Str.{IsUtf8-from_ascii}
use borrow.Author.Tests.{ltb-true}
use Rattle.std.proofs.lemmas.Slice.Eq.{bytes_eq-Decides}
use Rattle.mongo_bson.specs.Document.{Element, document, IsCstring, IsElement, IsDocument, IsInside, IsReadable, spell}
use Rattle.mongo_bson.specs.Framed.{IsFramed, maximum_length}
use Rattle.mongo_bson.specs.declared.raw_value.RawValue.TheVariants.{Str, Binary, Bool as Boolean, Int32}
use Rattle.mongo_bson.proofs.Enclosed.{element_bytes-enclosed, framed-enclosed}
use Rattle.mongo_bson.proofs.ReadBack.{written_element}
use Rattle.mongo_command.proofs.HelloShort.{spelled_length, length-spelled}
use Rattle.mongo_command.specs.Literal.{text_element, document_element, boolean_element, int32_element, document_of, generic_element}

-- ---- keys

-- no byte is zero
abbrev pub plain_bytes : List ℕ → Bool
plain_bytes [] = true
plain_bytes (b ∷ bs) = not (b == 0) && plain_bytes bs

both_true : (a b : Bool) → (a && b) ≡ true → (a ≡ true) × (b ≡ true)
both_true true b is = (refl, is)
both_true false b is = absurd (false≢true is)

not_true : (a : Bool) → not a ≡ true → false ≡ a
not_true false is = refl
not_true true is = absurd (false≢true is)

without_zero : (bytes : List ℕ) → plain_bytes bytes ≡ true → AllByRecursion (λ b. b ≢ 0) bytes
without_zero [] is = tt
without_zero (b ∷ bs) is = let parts = both_true (not (b == 0)) (plain_bytes bs) is in (false-eqb b 0 (not_true (b == 0) parts.0), without_zero bs parts.1)

-- each byte is ASCII
abbrev pub low : List ℕ → Bool
low [] = true
low (b ∷ bs) = nat_lt b 128 && low bs

ascii : (bytes : List ℕ) → low bytes ≡ true → IsAscii bytes
ascii [] is i = omega arith
ascii (b ∷ bs) is zero = ltb-true b 128 (both_true (nat_lt b 128) (low bs) is).0
ascii (b ∷ bs) is (suc i) = ascii bs (both_true (nat_lt b 128) (low bs) is).1 i

pub ascii_text : (bytes : List ℕ) → low bytes ≡ true → IsUtf8 bytes
ascii_text bytes is = IsUtf8-from_ascii bytes (ascii bytes is)

pub cstring : (key : List ℕ) → low key ≡ true → plain_bytes key ≡ true → IsCstring key
cstring key is also = record { utf8 = ascii_text key is; without_zero = without_zero key also }

-- two keys that a test tells apart
pub apart : (a b : List ℕ) → bytes_eq a b ≡ false → a ≢ b
apart a b is same = false≢true (sym is ∙ (bytes_eq-Decides a b).1 same)

-- ---- elements

pub text_is_element : (key text : List ℕ) → IsCstring key → IsUtf8 text → length text < maximum_length → IsElement (text_element key text)
text_is_element key text name utf8 short = written_element key (Str (record { ref_ptr = (0, 0); now = text })) name (utf8, short)

pub number_is_element : (key : List ℕ) (number : ℤ) → IsCstring key → FitsSigned w32 number → IsElement (int32_element key number)
number_is_element key number name fits = written_element key (Int32 number) name fits

pub boolean_is_element : (key : List ℕ) (boolean : Bool) → IsCstring key → IsElement (boolean_element key boolean)
boolean_is_element key boolean name = written_element key (Boolean boolean) name tt

pub binary_is_element : (key bytes : List ℕ) → IsCstring key → length bytes ≤ maximum_length → IsElement (generic_element key bytes)
binary_is_element key bytes name short = written_element key (Binary 0 (record { ref_ptr = (0, 0); now = bytes })) name short

pub document_is_element : (key inner : List ℕ) → IsCstring key → IsFramed inner → IsElement (document_element key inner)
document_is_element key inner name framed = record { shape = document; known = refl; key = name; value = framed }

-- ---- documents

pub document_of-is : (es : List Element) → AllByRecursion IsElement es → spelled_length es + 5 ≤ maximum_length → IsDocument (document_of es) es
document_of-is es each short = record {
  framed = framed-enclosed (flat_map spell es) (omega (arith, length-spelled es));
  filled = element_bytes-enclosed (flat_map spell es) (omega (arith, length-spelled es));
  each = each;
}

pub framed_document_of : (es : List Element) → spelled_length es + 5 ≤ maximum_length → IsFramed (document_of es)
framed_document_of es short = framed-enclosed (flat_map spell es) (omega (arith, length-spelled es))

-- ---- levels

-- no document is inside the element
abbrev pub IsFlat : Element → Type 0
IsFlat e = (d : List ℕ) → IsInside e d → ⊥

pub flat_readable : (levels : ℕ) (b : List ℕ) (es : List Element) → IsDocument b es → AllByRecursion IsFlat es → IsReadable (suc levels) b
unfolding IsReadable
flat_readable levels b es is flat = (es, is, all_flat es flat) where
  all_flat : (xs : List Element) → AllByRecursion IsFlat xs → AllByRecursion (λ e. (d : List ℕ) → IsInside e d → IsReadable levels d) xs
  all_flat [] all = tt
  all_flat (x ∷ xs) all = ((λ d inside. absurd (all.0 d inside)), all_flat xs all.1)
