-- Arrays that grow by one value at a time.
use Rattle.std.proofs.Common.{◌≡◌, ◌≢◌, ℕ, ◌+◌, ◌^◌, ◌%◌, ◌<◌, ◌≤◌, List, [], ◌∷◌, ◌++◌, length, Result, Ok, Err, IfOk, take, drop, get_or, refl, sym, ap, ◌∙◌, subst, arith}
use Rattle.std.specs.Prelude.{IsErrOf}
use Rattle.std.specs.Fmt.{decimal}
use Rattle.std.specs.List.{Contains, flat_map}
use Rattle.std.proofs.Math.Logic.{∥∥₁_map}
use Rattle.std.proofs.lemmas.Fmt.{decimal_by_steps}
use Rattle.std.proofs.lemmas.List.{append-nil, length-append, map-append, map_more, take-append-drop, take_all}
use Rattle.std.proofs.lemmas.List.Concat.{flat_map-append}
use Rattle.std.proofs.lemmas.List.Elements.{All-from_recursion}
use Rattle.mongo_num.specs.declared.fault.NumFault.{NumFault}
use Rattle.mongo_bson.specs.declared.fault.BsonFault.{BsonFault}
use Rattle.mongo_bson.specs.declared.fault.BsonFault.TheVariants.{KeyHasZero, TooLong, OutOfMemory}
use Rattle.mongo_bson.specs.Framed.{IsFramed, element_bytes, enclosed, maximum_length}
use Rattle.mongo_bson.specs.Document.{spell}
use Rattle.mongo_bson.specs.Array.{Entry, numbered, array_of, IsArrayOf, IsArray, GrowsBy, document_entries}
use Rattle.mongo_bson.specs.Refusals.{AppendRefuses, PushRefuses, HadMemory}
use Rattle.mongo_bson.proofs.Cstrings.{HasNoZero}
use Rattle.mongo_bson.proofs.OneElement.{made_of}
use Rattle.mongo_bson.proofs.Passed.{all_push}
use Rattle.mongo_bson.proofs.Enclosed.{length-enclosed, element_bytes-enclosed, length-element_bytes}

digits_no_zero : (n : ℕ) → n < 2 ^ 64 → HasNoZero (decimal n)
digits_no_zero n small =
    decimal_by_steps (λ _ ds. HasNoZero ds) (λ d _. ((λ zero. omega arith), tt)) (λ d ds _ before. all_push (λ b. b ≢ 0) ds (48 + d % 10) before (λ zero. omega arith)) n small

-- the text of a number, however the number is written
pub number_text : (text : List ℕ) (number count : ℕ) → number ≡ count → text ≡ decimal number → text ≡ decimal count
number_text text number count same is = is ∙ ap decimal same

-- a number has no zero byte in decimal
pub decimal_no_zero : (n : ℕ) → n < 2 ^ 64 → Contains (decimal n) 0 → ⊥
decimal_no_zero n small (k, within, zero) = All-from_recursion (λ b. b ≢ 0) (decimal n) (digits_no_zero n small) k 0 within zero

-- a key without a zero is no cause
pub push_refuses : (fault : BsonFault) → AppendRefuses fault → (fault ≡ KeyHasZero → ⊥) → PushRefuses fault
push_refuses KeyHasZero refused other = absurd (other refl)
push_refuses TooLong refused other = tt
push_refuses OutOfMemory refused other = tt
push_refuses fault refused other = absurd refused

numbered-append : (i : ℕ) (xs ys : List Entry) → numbered i (xs ++ ys) ≡ numbered i xs ++ numbered (i + length xs) ys
numbered-append i [] ys = ap (λ n. numbered n ys) (let e : i ≡ i + 0 = omega arith in e)
numbered-append i (x ∷ xs) ys =
    ap (λ w. made_of x.kind (decimal i) x.value ∷ w) (numbered-append (i + 1) xs ys ∙ ap (λ n. numbered (i + 1) xs ++ numbered n ys) (let e : i + 1 + length xs ≡ i + length (x ∷ xs) = omega arith in e))

lies-append : (xs ys : List Entry) → flat_map spell (numbered 0 (xs ++ ys)) ≡ flat_map spell (numbered 0 xs) ++ flat_map spell (numbered (length xs) ys)
lies-append xs ys = ap (flat_map spell) (numbered-append 0 xs ys ∙ ap (λ n. numbered 0 xs ++ numbered n ys) (let e : 0 + length xs ≡ length xs = omega arith in e)) ∙ flat_map-append spell (numbered 0 xs) (numbered (length xs) ys)

-- the bytes of an array's elements
element_bytes_of_array : (document : List ℕ) (count : ℕ) (values : List Entry) → IsFramed document → IsArrayOf document count values → element_bytes document ≡ flat_map spell (numbered 0 values)
element_bytes_of_array document count values framed is =
    ap element_bytes is.spelled ∙ element_bytes-enclosed (flat_map spell (numbered 0 values)) (omega (arith, ap length is.spelled, length-enclosed (flat_map spell (numbered 0 values)), framed.most))

-- a document of one element more is longer
pub one_more_within : (old new key value : List ℕ) (kind count : ℕ) → IsFramed old → count ≤ length old → new ≡ enclosed (element_bytes old ++ spell (made_of kind key value)) → count + 1 ≤ length new
one_more_within old new key value kind count framed within grown =
    let element = spell (made_of kind key value) in
    omega (arith, ap length grown, length-enclosed (element_bytes old ++ element), length-append (element_bytes old) element, length-element_bytes old framed, within)

-- one value more
pub array_pushed : (document new value : List ℕ) (kind count : ℕ) (values : List Entry) → IsFramed document → IsArrayOf document count values → new ≡ enclosed (element_bytes document ++ spell (made_of kind (decimal count) value)) → IsArrayOf new (count + 1) (values ++ record { kind = kind; value = value } ∷ [])
array_pushed document new value kind count values framed is grown =
    let one : List Entry = record { kind = kind; value = value } ∷ [] in
    let element = made_of kind (decimal count) value in
    let last : flat_map spell (numbered (length values) one) ≡ spell element = append-nil (spell (made_of kind (decimal (length values)) value)) ∙ ap (λ n. spell (made_of kind (decimal n) value)) (sym is.counted) in
    let whole = lies-append values one ∙ ap (λ w. flat_map spell (numbered 0 values) ++ w) last in
    record {
      spelled = grown ∙ ap (λ w. enclosed (w ++ spell element)) (element_bytes_of_array document count values framed is) ∙ ap enclosed (sym whole);
      counted = omega (arith, is.counted, length-append values one);
    }

-- the array of some values has one more
pub array_goes_on : (document new key value : List ℕ) (kind count : ℕ) → IsFramed document → key ≡ decimal count → new ≡ enclosed (element_bytes document ++ spell (made_of kind key value)) → IsArray document count → IsArray new (count + 1)
array_goes_on document new key value kind count framed number grown array =
    let grown_at = grown ∙ ap (λ k. enclosed (element_bytes document ++ spell (made_of kind k value))) number in
    ∥∥₁_map array (λ some. (some.0 ++ record { kind = kind; value = value } ∷ [], array_pushed document new value kind count some.0 framed some.1 grown_at))

-- an array is no longer than one that begins with its values
pub longer_array : (xs ys : List Entry) → length (array_of xs) ≤ length (array_of (xs ++ ys))
longer_array xs ys =
    let here = flat_map spell (numbered 0 xs) in
    let more = flat_map spell (numbered (length xs) ys) in
    omega (arith, length-enclosed here, length-enclosed (flat_map spell (numbered 0 (xs ++ ys))), ap length (lies-append xs ys), length-append here more)

-- documents taken one further
pub entries_more : (documents : List (List ℕ)) (i : ℕ) (d : List ℕ) → i < length documents → document_entries (take (i + 1) documents) ≡ document_entries (take i documents) ++ record { kind = 0x03; value = get_or documents i d } ∷ []
entries_more documents i d within = map_more (λ x. record { kind = 0x03; value = x }) documents i d within

-- one document more
pub document_pushed : (document new value item : List ℕ) (count new_count i : ℕ) (documents : List (List ℕ)) → i < length documents → IsFramed document → IsArrayOf document count (document_entries (take i documents)) → value ≡ item → item ≡ get_or documents i item → new ≡ enclosed (element_bytes document ++ spell (made_of 0x03 (decimal count) value)) → new_count ≡ count + 1 → IsArrayOf new new_count (document_entries (take (i + 1) documents))
document_pushed document new value item count new_count i documents within framed is read at grown counted =
    let more = entries_more documents i item within ∙ ap (λ v. document_entries (take i documents) ++ record { kind = 0x03; value = v } ∷ []) (sym (read ∙ at)) in
    let next = array_pushed document new value 0x03 count (document_entries (take i documents)) framed is grown in
    subst (λ n. IsArrayOf new n (document_entries (take (i + 1) documents))) (sym counted) (subst (IsArrayOf new (count + 1)) (sym more) next)

-- the array of all of the documents
pub document_all : (document : List ℕ) (count i : ℕ) (items documents : List (List ℕ)) → length items ≤ i → items ≡ documents → IsArrayOf document count (document_entries (take i items)) → IsArrayOf document count (document_entries documents)
document_all document count i items documents passed are is = subst (λ ds. IsArrayOf document count (document_entries ds)) (take_all i items passed ∙ are) is

-- where the next document has no room, the whole array has none
pub array_too_long : (document value item : List ℕ) (count i : ℕ) (documents : List (List ℕ)) → i < length documents → IsFramed document → IsArrayOf document count (document_entries (take i documents)) → value ≡ item → item ≡ get_or documents i item → maximum_length < length document + length (spell (made_of 0x03 (decimal count) value)) → maximum_length < length (array_of (document_entries documents))
array_too_long document value item count i documents within framed is read at long =
    let element = made_of 0x03 (decimal count) value in
    let next = document_pushed document (enclosed (element_bytes document ++ spell element)) value item count (count + 1) i documents within framed is read at refl refl in
    let all : document_entries (take (i + 1) documents) ++ document_entries (drop (i + 1) documents) ≡ document_entries documents = sym (map-append (λ x. record { kind = 0x03; value = x }) (take (i + 1) documents) (drop (i + 1) documents)) ∙ ap document_entries (take-append-drop (i + 1) documents) in
    let below = longer_array (document_entries (take (i + 1) documents)) (document_entries (drop (i + 1) documents)) in
    omega (arith, long, below, ap (λ w. length (array_of w)) all, ap length next.spelled, length-enclosed (element_bytes document ++ spell element), length-append (element_bytes document) (spell element), length-element_bytes document framed)

-- what the refusal of `append` says where the key is a number
pub too_long_at_number : (document : List ℕ) (value : List ℕ) (key number : List ℕ) (P : Type 0) → key ≡ number → (Contains number 0 → ⊥) → ((P → (Contains key 0 → ⊥) × (maximum_length < length document + length (0 ∷ (key ++ 0 ∷ value)))) × ((Contains key 0 → ⊥) × (maximum_length < length document + length (0 ∷ (key ++ 0 ∷ value))) → P)) → (P → maximum_length < length document + length (0 ∷ (number ++ 0 ∷ value))) × (maximum_length < length document + length (0 ∷ (number ++ 0 ∷ value)) → P)
too_long_at_number document value key number P same none said =
    let longs = λ (k : List ℕ). maximum_length < length document + length (0 ∷ (k ++ 0 ∷ value)) in
    ((λ p. subst longs same (said.0 p).1), (λ long. said.1 (subst (λ k. Contains k 0 → ⊥) (sym same) none, subst longs (sym same) long)))

-- a push that is refused for want of room is refused for nothing else
pub refused_push : {T : Type 0} (fault : BsonFault) (P : Type 0) → PushRefuses fault → (fault ≡ TooLong → P) → (let r : Result T BsonFault = Err fault in (IsErrOf r TooLong → HadMemory r × P) × (HadMemory r × P → IsErrOf r TooLong))
refused_push TooLong P refused cause = (λ _. (λ memory. cc, cause refl), λ _. refl)
refused_push OutOfMemory P refused cause = (λ same. cc, λ said. absurd (said.0 refl))
refused_push fault P refused cause = absurd refused

-- an array grows by a document by the document's length, the digits of its number, a kind byte and a zero
pub array_grows : (values : List Entry) (document : List ℕ) → length (array_of (values ++ record { kind = 0x03; value = document } ∷ [])) ≡ length (array_of values) + (2 + length (decimal (length values)) + length document)
array_grows values document =
    let one : List Entry = record { kind = 0x03; value = document } ∷ [] in
    let here = flat_map spell (numbered 0 values) in
    let key = decimal (length values) in
    let last : length (flat_map spell (numbered (length values) one)) ≡ length (spell (made_of 0x03 key document)) = ap length (append-nil (spell (made_of 0x03 key document))) in
    omega (arith, length-enclosed here, length-enclosed (flat_map spell (numbered 0 (values ++ one))), ap length (lies-append values one), length-append here (flat_map spell (numbered (length values) one)), last, length-append key (0 ∷ document))

-- so the size of an entry is what it adds
pub entry_grows : (index size : ℕ) (r : Result ℕ NumFault) → IfOk r (λ growth. growth ≡ 2 + length (decimal index) + size) → IfOk r (GrowsBy index size)
entry_grows index size (Ok growth) is = λ values document counted sized.
    omega (arith, array_grows values document, is, ap (λ n. length (decimal n)) counted, sized)
entry_grows index size (Err fault) is = tt
