-- What a search found, in the one list of elements that a document has.
use Rattle.std.proofs.Common.{◌≡◌, ◌≢◌, ℕ, List, [], ◌∷◌, ◌++◌, refl, sym, ap, ◌∙◌, subst}
use Rattle.std.specs.List.{AllByRecursion, flat_map}
use Rattle.std.proofs.lemmas.List.{append_assoc}
use Rattle.mongo_bson.specs.Framed.{element_bytes}
use Rattle.mongo_bson.specs.Document.{Element, IsElement, IsDocument, spell}
use Rattle.mongo_bson.specs.Keys.{Fill}
use Rattle.mongo_bson.specs.Find.{IsFirstOf, LacksKey, BreaksOff}
use Rattle.mongo_bson.proofs.OneElement.{one_list}
use Rattle.mongo_bson.proofs.Filled.{fill_rest, no_fill}

-- elements that stand at the front of bytes are the first of the list that fills them
pub front_of_list : (before es : List Element) (bytes rest : List ℕ) → AllByRecursion IsElement before → bytes ≡ flat_map spell before ++ rest → Fill bytes es → (more : List Element) × (es ≡ before ++ more) × Fill rest more
front_of_list [] es bytes rest each spelled fill = (es, refl, record { spelled = sym spelled ∙ fill.spelled; each = fill.each })
front_of_list (x ∷ xs) es bytes rest each spelled fill =
    let whole = spelled ∙ append_assoc (spell x) (flat_map spell xs) rest in
    let split = fill_rest bytes (flat_map spell xs ++ rest) x es (record { is_element = each.0; spelled = whole }) fill in
    let inner = front_of_list xs split.0 (flat_map spell xs ++ rest) rest each.1 refl split.2 in
    (inner.0, split.1 ∙ ap (λ w. x ∷ w) inner.1, inner.2)

-- the first element of a key stands in the document's list, after elements of other keys
pub record StandsFirst (elements : List Element) (key : List ℕ) (element : Element) : Type 0 where
  pub before : List Element
  pub after : List Element
  pub place : elements ≡ before ++ element ∷ after
  pub other : AllByRecursion (λ e. e.key ≢ key) before

pub first_in_document : (b key : List ℕ) (element : Element) (elements : List Element) → IsDocument b elements → IsFirstOf (element_bytes b) key element → StandsFirst elements key element
first_in_document b key element elements is found =
    let passed = found.passed in
    let front = front_of_list passed.before elements (element_bytes b) found.rest passed.each passed.spelled (record { spelled = is.filled; each = is.each }) in
    let split = fill_rest found.rest found.after element front.0 found.begins front.2 in
    record { before = passed.before; after = split.0; place = front.1 ∙ ap (λ w. passed.before ++ w) split.1; other = passed.other }

-- where none was found, no element of the document has the key
pub none_in_document : (b key : List ℕ) (elements : List Element) → IsDocument b elements → LacksKey (element_bytes b) key → AllByRecursion (λ e. e.key ≢ key) elements
none_in_document b key elements is none =
    subst (AllByRecursion (λ e. e.key ≢ key)) (one_list none.elements elements none.fill.each is.each (sym none.fill.spelled ∙ is.filled)) none.other

-- where the elements break off, the bytes are no document of elements
pub broken_no_document : (b key : List ℕ) (elements : List Element) → IsDocument b elements → BreaksOff (element_bytes b) key → ⊥
broken_no_document b key elements is broken =
    let passed = broken.passed in
    let front = front_of_list passed.before elements (element_bytes b) broken.rest passed.each passed.spelled (record { spelled = is.filled; each = is.each }) in
    no_fill broken.rest front.0 broken.broken.none broken.broken.left front.2
