-- What was appended is read back.
use Rattle.std.proofs.Common.{◌≡◌, ◌≢◌, ℕ, suc, ◌+◌, ◌-◌, ◌^◌, ◌<◌, ◌≤◌, inl, inr, Bool, true, false, Result, Ok, Err, OnOk, List, [], ◌∷◌, ◌++◌, length, get_or, refl, sym, ap, ◌∙◌, subst, arith}
use Rattle.std.specs.Int.{to_le_bytes, from_le_bytes, from_bool, w32}
use Rattle.std.specs.List.{AllByRecursion, Contains, flat_map}
use Rattle.std.specs.Str.{IsUtf8}
use Rattle.std.proofs.lemmas.List.{append_assoc, append-nil, length-append, get_or_at, take_at}
use Rattle.std.proofs.lemmas.List.Concat.{flat_map-append}
use Rattle.std.proofs.lemmas.Nat.{from_le_bytes-to_le_bytes_4}
use Rattle.mongo_bson.specs.Framed.{IsFramed, element_bytes, enclosed, maximum_length}
use Rattle.mongo_bson.specs.Document.{Element, fixed, boolean, string, document, binary, Holds, IsCstring, IsString, IsBinary, IsElement, AddsElement, spell, text_of}
use Rattle.mongo_bson.specs.Reading.{HoldsKind}
use Rattle.mongo_bson.specs.Value.{kind_of, bytes_of, element_of}
use Rattle.mongo_bson.specs.Writable.{IsWritable, AddsValue}
use Rattle.mongo_bson.specs.declared.fault.BsonFault.{BsonFault}
use Rattle.mongo_bson.specs.declared.raw_value.RawValue.{RawValue}
use Rattle.mongo_bson.specs.declared.raw_value.RawValue.TheVariants.{Double, Str, Document, Array, Binary, ObjectId, Bool as Boolean, DateTime, Null, Int32, Int64, Other}
use Rattle.mongo_bson.proofs.Passed.{all_push}
use Rattle.mongo_bson.proofs.Enclosed.{element_bytes-enclosed}

-- a text, counted and ended, is a string
text_is_string : (text : List ℕ) → IsUtf8 text → length text < maximum_length → IsString (to_le_bytes w32 (length text + 1) ++ (text ++ 0 ∷ []))
text_is_string text utf8 short =
    let v = to_le_bytes w32 (length text + 1) ++ (text ++ 0 ∷ []) in
    let number : from_le_bytes w32 v ≡ length text + 1 = from_le_bytes-to_le_bytes_4 (length text + 1) (omega arith) in
    let size : length v ≡ length text + 5 = omega (arith, length-append text (0 ∷ [])) in
    let inner : text_of v ≡ text = take_at text (0 ∷ []) (length v - 5) (omega (arith, size)) in
    record {
      least = omega (arith, size);
      most = omega (arith, number);
      counted = omega (arith, number, size);
      ended = ap (λ w. get_or w (length v - 1) 0) (sym (append_assoc (to_le_bytes w32 (length text + 1)) text (0 ∷ []))) ∙ get_or_at (to_le_bytes w32 (length text + 1) ++ text) 0 [] 0 (length v - 1) (omega (arith, size, length-append (to_le_bytes w32 (length text + 1)) text));
      utf8 = subst IsUtf8 (sym inner) utf8;
    }

content_is_binary : (subtype : ℕ) (content : List ℕ) → length content ≤ maximum_length → IsBinary (to_le_bytes w32 (length content) ++ (subtype ∷ content))
content_is_binary subtype content short =
    let number : from_le_bytes w32 (to_le_bytes w32 (length content) ++ (subtype ∷ content)) ≡ length content = from_le_bytes-to_le_bytes_4 (length content) (omega arith) in
    record { least = omega arith; most = omega (arith, number); counted = omega (arith, number) }

byte_is_boolean : (b : Bool) → Holds boolean (from_bool b ∷ [])
byte_is_boolean true = inr refl
byte_is_boolean false = inl refl

-- the bytes of a value are a value of its kind
pub written_holds : (value : RawValue) → IsWritable value → HoldsKind (kind_of value) (bytes_of value)
written_holds (Double bits) is = (fixed 8, refl, refl)
written_holds (Str text) is = (string, refl, text_is_string text.now is.0 is.1)
written_holds (Document d) is = (document, refl, is)
written_holds (Array a) is = (document, refl, is)
written_holds (Binary subtype content) is = (binary, refl, content_is_binary subtype content.now is)
written_holds (ObjectId id) is = (fixed 12, refl, is)
written_holds (Boolean b) is = (boolean, refl, byte_is_boolean b)
written_holds (DateTime milliseconds) is = (fixed 8, refl, refl)
written_holds Null is = (fixed 0, refl, refl)
written_holds (Int32 number) is = (fixed 4, refl, refl)
written_holds (Int64 number) is = (fixed 8, refl, refl)
written_holds (Other kind content) is = is.0

-- so a key and a value are written as an element
pub written_element : (key : List ℕ) (value : RawValue) → IsCstring key → IsWritable value → IsElement (element_of key value)
written_element key value name is = let held = written_holds value is in record { shape = held.0; known = held.1; key = name; value = held.2 }

-- a document that an element was appended to has it as its last
pub one_element_more : (old new : List ℕ) (element : Element) → IsFramed new → new ≡ enclosed (element_bytes old ++ spell element) → AddsElement old new element
one_element_more old new element framed grown elements is e =
    let body = element_bytes old ++ spell element in
    let short : length body + 5 < 2 ^ 32 = omega (arith, ap length grown, length-append body (0 ∷ []), framed.most) in
    let one : flat_map spell (element ∷ []) ≡ spell element = append-nil (spell element) in
    record {
      framed = framed;
      filled = ap element_bytes grown ∙ element_bytes-enclosed body short ∙ ap (λ w. w ++ spell element) is.filled ∙ ap (λ w. flat_map spell elements ++ w) (sym one) ∙ sym (flat_map-append spell elements (element ∷ []));
      each = all_push IsElement elements element is.each e;
    }

pub one_more_on_ok : (r : Result (Unit {0}) BsonFault) (old new : List ℕ) (element : Element) → IsFramed new → OnOk r (new ≡ enclosed (element_bytes old ++ spell element)) → OnOk r (AddsElement old new element)
one_more_on_ok (Ok done) old new element framed grown = one_element_more old new element framed grown
one_more_on_ok (Err fault) old new element framed grown = tt

-- bytes that don't hold a zero have none
no_zero : (bytes : List ℕ) → (Contains bytes 0 → ⊥) → AllByRecursion (λ b. b ≢ 0) bytes
no_zero [] none = tt
no_zero (b ∷ bytes) none = (λ same. none (0, omega arith, same), no_zero bytes (λ held. none (suc held.0, omega (arith, held.1), held.2)))

-- so one that a value was appended to under a key has them
pub adds_value_on_ok : (r : Result (Unit {0}) BsonFault) (old new key : List ℕ) (value : RawValue) → IsUtf8 key → (Contains key 0 → ⊥) → OnOk r (AddsElement old new (element_of key value)) → OnOk r (AddsValue old new key value)
adds_value_on_ok (Ok done) old new key value utf8 none adds = λ writable elements is. adds elements is (written_element key value (record { utf8 = utf8; without_zero = no_zero key none }) writable)
adds_value_on_ok (Err fault) old new key value utf8 none adds = tt
