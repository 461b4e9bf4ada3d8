-- A document has one value at a key, and one first key.
use Rattle.std.proofs.Common.{◌≡◌, ◌==◌, ◌↔◌, ℕ, ℤ, Option, None, Some, Bool, true, false, IsTrue, MatchOption, List, [], ◌∷◌, inl, inr, refl, sym, ap, ◌∙◌, subst, eq-eqb}
use Rattle.std.proofs.lemmas.Bool.{false≢true}
use Rattle.std.specs.Int.{from_le_bytes, cast_signed, w32}
use Rattle.mongo_bson.specs.Document.{Element, text_of}
use Rattle.mongo_bson.specs.Find.{FindsValue, IsFirstOf}
use Rattle.mongo_bson.specs.Framed.{element_bytes}
use Rattle.mongo_bson.specs.Value.{IsValue, has_variant}
use Rattle.mongo_bson.specs.declared.raw_value.RawValue.{RawValue}
use Rattle.mongo_bson.specs.declared.raw_value.RawValue.TheVariants.{Double, Str, Document, Array, Binary, ObjectId, Bool as Boolean, DateTime, Null, Int32, Int64, Other}
use Rattle.mongo_bson.proofs.OneAnswer.{found_or_none, one_found, one_key}
use Rattle.mongo_command.specs.Keys.{speculative_authenticate_key}
use Rattle.mongo_scram.specs.declared.scram_version.ScramVersion.{ScramVersion}
use Rattle.mongo_session.specs.ServeSettings.{version_named}
use Rattle.mongo_session.specs.declared.request.StartRequest.{StartRequest}
use Rattle.mongo_session.specs.Requests.{CarriesLogin, HasPayload, IsCommandName, IsCommandNamed, SaysStart, SaysVersion, SkipsEmptyExchange}
use Rattle.mongo_session.specs.Values.{binary_bytes, HasInside, HasInt32, HasText, HasTrue, HoldsIfAny, inner_of, IsInt32, IsTrueBoolean, StandsAt, string_of}
use Rattle.mongo_sasl.specs.Keys.{mechanism_key, options_key, payload_key, sasl_start_key, skip_empty_exchange_key}

-- ---- one value

pub one_inside : (document key x y : List ℕ) → HasInside document key x → HasInside document key y → x ≡ y
one_inside document key x y p q = p.inner_is ∙ ap (λ e. e.value) (one_found (element_bytes document) key p.element q.element p.first q.first) ∙ sym q.inner_is

pub one_text : (document key x y : List ℕ) → HasText document key x → HasText document key y → x ≡ y
one_text document key x y p q = p.text_is ∙ ap (λ e. text_of e.value) (one_found (element_bytes document) key p.element q.element p.first q.first) ∙ sym q.text_is

-- a document of another command isn't named so
pub named_otherwise : (document name key : List ℕ) → IsCommandName document name → (name ≡ key → ⊥) → IsCommandNamed document key → ⊥
named_otherwise document name key (inl named) other is = other (one_key (element_bytes document) name key named is)
named_otherwise document name key (inr (unnamed, empty)) other is = unnamed key is

pub stands : (document key : List ℕ) (found : Option RawValue) → FindsValue (element_bytes document) key found → StandsAt document key found
stands document key None none = λ e first. found_or_none (element_bytes document) key e first none
stands document key (Some value) finds = finds

-- ---- the kind of a value that was found

-- a variant's kind; 0, which is none, where it has several
abbrev number : RawValue → ℕ
number (Double bits) = 0x01
number (Str text) = 0x02
number (Document document) = 0x03
number (Array array) = 0x04
number (Binary subtype content) = 0x05
number (ObjectId id) = 0x07
number (Boolean boolean) = 0x08
number (DateTime milliseconds) = 0x09
number Null = 0x0A
number (Int32 n) = 0x10
number (Int64 n) = 0x12
number (Other kind content) = 0

differs : (kind n wanted : ℕ) → kind ≡ n → (n == wanted) ≡ false → kind ≡ wanted → ⊥
differs kind n wanted is test same = false≢true (sym test ∙ eq-eqb n wanted (sym is ∙ same))

not_kind : (v : RawValue) (kind wanted : ℕ) (bytes : List ℕ) → IsValue kind bytes v → (number v == wanted) ≡ false → has_variant wanted ≡ true → kind ≡ wanted → ⊥
not_kind (Double bits) kind wanted bytes is test known same = differs kind 0x01 wanted is.0 test same
not_kind (Str text) kind wanted bytes is test known same = differs kind 0x02 wanted is.0 test same
not_kind (Document document) kind wanted bytes is test known same = differs kind 0x03 wanted is.0 test same
not_kind (Array array) kind wanted bytes is test known same = differs kind 0x04 wanted is.0 test same
not_kind (Binary subtype content) kind wanted bytes is test known same = differs kind 0x05 wanted is.0 test same
not_kind (ObjectId id) kind wanted bytes is test known same = differs kind 0x07 wanted is.0 test same
not_kind (Boolean boolean) kind wanted bytes is test known same = differs kind 0x08 wanted is.0 test same
not_kind (DateTime milliseconds) kind wanted bytes is test known same = differs kind 0x09 wanted is.0 test same
not_kind Null kind wanted bytes is test known same = differs kind 0x0A wanted is test same
not_kind (Int32 n) kind wanted bytes is test known same = differs kind 0x10 wanted is.0 test same
not_kind (Int64 n) kind wanted bytes is test known same = differs kind 0x12 wanted is.0 test same
not_kind (Other other content) kind wanted bytes is test known same = false≢true (sym is.2 ∙ ap has_variant same ∙ known)

-- the first element of the key is of another kind
other_kind : (document key : List ℕ) (v : RawValue) (wanted : ℕ) → FindsValue (element_bytes document) key (Some v) → (number v == wanted) ≡ false → has_variant wanted ≡ true
    → (e : Element) → IsFirstOf (element_bytes document) key e → e.kind ≡ wanted → ⊥
other_kind document key v wanted (f, first, is) test known e found same = not_kind v f.kind wanted f.value is test known (ap (λ x. x.kind) (one_found (element_bytes document) key f e first found) ∙ same)

pub string_held : (document key : List ℕ) (v : RawValue) → FindsValue (element_bytes document) key (Some v) → HoldsIfAny (HasText document key) (string_of v)
string_held document key (Str text) (e, first, is) = record { element = e; first = first; string = is.0; text_is = is.1 }
string_held document key other finds = λ text has. other_kind document key other 0x02 finds refl refl has.element has.first has.string

pub binary_held : (document : List ℕ) (v : RawValue) → FindsValue (element_bytes document) payload_key (Some v) → HoldsIfAny (HasPayload document) (binary_bytes v)
binary_held document (Binary subtype bytes) (e, first, is) = record { element = e; first = first; binary = is.0; payload_is = is.2 }
binary_held document other finds = λ payload has. other_kind document payload_key other 0x05 finds refl refl has.element has.first has.binary

pub inner_held : (document key : List ℕ) (v : RawValue) → FindsValue (element_bytes document) key (Some v) → MatchOption (inner_of v) ((inner : List ℕ) → HasInside document key inner → ⊥) (λ inner. HasInside document key inner.bytes.now)
inner_held document key (Document inner) (e, first, is) = record { element = e; first = first; is_document = is.0; inner_is = is.1 }
inner_held document key other finds = λ inner has. other_kind document key other 0x03 finds refl refl has.element has.first has.is_document

pub boolean_held : (document key : List ℕ) (v : RawValue) → FindsValue (element_bytes document) key (Some v) → IsTrueBoolean v ↔ HasTrue document key
boolean_held document key (Boolean true) (e, first, is) = (λ _. record { element = e; first = first; boolean = is.0; set = is.1 }, λ _. refl)
boolean_held document key (Boolean false) (e, first, is) =
    (λ never. absurd (false≢true never), λ has. absurd (zero_or_one e.value is.1 (ap (λ x. x.value) (one_found (element_bytes document) key e has.element first has.first) ∙ has.set)))
  where
    zero_or_one : (bytes : List ℕ) → bytes ≡ 0 ∷ [] → bytes ≡ 1 ∷ [] → ⊥
    zero_or_one bytes zero one = cc
boolean_held document key other finds = (λ never. absurd never, λ has. absurd (other_kind document key other 0x08 finds refl refl has.element has.first has.boolean))

pub int32_held : (document key : List ℕ) (wanted : ℤ) (v : RawValue) → FindsValue (element_bytes document) key (Some v) → IsInt32 wanted v ↔ HasInt32 document key wanted
int32_held document key wanted (Int32 n) (e, first, is) =
    (λ same. record { element = e; first = first; int32 = is.0; number_is = sym is.1 ∙ same }, λ has. is.1 ∙ ap (λ x. cast_signed w32 (from_le_bytes w32 x.value)) (one_found (element_bytes document) key e has.element first has.first) ∙ has.number_is)
int32_held document key wanted other finds = (λ never. absurd never, λ has. absurd (other_kind document key other 0x10 finds refl refl has.element has.first has.int32))

-- ---- the parts of a login's command

-- the version that a mechanism names is that of its document
pub version_said : (document name : List ℕ) → HasText document mechanism_key name → (version : Option ScramVersion) → version ≡ version_named name → SaysVersion document version
version_said document name has None is = λ other other_has. ap version_named (one_text document mechanism_key other name other_has has) ∙ sym is
version_said document name has (Some version) is = (name, has, sym is)

pub version_unsaid : (document : List ℕ) → ((name : List ℕ) → HasText document mechanism_key name → ⊥) → SaysVersion document None
version_unsaid document none = λ name has. absurd (none name has)

pub skips_said : (document options : List ℕ) (b : Bool) → HasInside document options_key options → IsTrue b ↔ HasTrue options skip_empty_exchange_key → IsTrue b ↔ SkipsEmptyExchange document
skips_said document options b inside test = (λ set. (options, inside, test.0 set), λ (other, other_inside, set). test.1 (subst (λ o. HasTrue o skip_empty_exchange_key) (one_inside document options_key other options other_inside inside) set))

pub skips_unsaid : (document : List ℕ) → ((options : List ℕ) → HasInside document options_key options → ⊥) → IsTrue false ↔ SkipsEmptyExchange document
skips_unsaid document none = (λ never. absurd (false≢true never), λ (options, inside, set). absurd (none options inside))

-- ---- the login that a hello carries

pub carried : (document inner : List ℕ) → HasInside document speculative_authenticate_key inner → (start : Option StartRequest) → MatchOption start (IsCommandNamed inner sasl_start_key → ⊥) (SaysStart inner) → CarriesLogin document start
carried document inner inside None none = λ other other_inside named. none (subst (λ i. IsCommandNamed i sasl_start_key) (one_inside document speculative_authenticate_key other inner other_inside inside) named)
carried document inner inside (Some start) says = record { inner = inner; inside = inside; says = says }
