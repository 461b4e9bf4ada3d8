-- Bytes in two parts: what a reader knows that tries each place where the first part may end.
use Rattle.std.proofs.Common.{◌≡◌, ℕ, ◌+◌, ◌<◌, inl, inr, List, [], ◌∷◌, ◌++◌, length, take, drop, refl, sym, ap, ◌∙◌, subst, arith}
use Rattle.std.specs.List.{flat_map}
use Rattle.std.proofs.lemmas.Bool.{cases_lt}
use Rattle.std.proofs.lemmas.List.{length-append, take_at, take-append-drop, append_cancel_left}
use Rattle.mongo_bson.specs.Document.{Element, IsElement, IsCstring, IsString, Holds, regular_expression, spell}
use Rattle.mongo_bson.specs.Framed.{IsFramed}
use Rattle.mongo_bson.specs.Reading.{HoldsKind, IsCodeAndScope}
use Rattle.mongo_bson.specs.Keys.{Fill}

-- the first part meets P and the other Q
pub record Splits (P Q : List ℕ → Type 0) (bytes : List ℕ) : Type 0 where
  pub front : List ℕ
  pub back : List ℕ
  pub spelled : bytes ≡ front ++ back
  pub first : P front
  pub second : Q back

-- at no place before this one do they split so
abbrev pub NoneBefore : (List ℕ → Type 0) → (List ℕ → Type 0) → List ℕ → ℕ → Type 0
NoneBefore P Q bytes place = (n : ℕ) → n < place → P (take n bytes) → Q (drop n bytes) → ⊥

pub one_place_more : (P Q : List ℕ → Type 0) (bytes : List ℕ) (place : ℕ) → NoneBefore P Q bytes place → (P (take place bytes) → Q (drop place bytes) → ⊥) → NoneBefore P Q bytes (place + 1)
one_place_more P Q bytes place none here n before p q =
    elim (cases_lt n place) [
      | inl less ↦ none n less p q
      | inr from ↦ (let same : n ≡ place = omega arith in here (subst (λ k. P (take k bytes)) same p) (subst (λ k. Q (drop k bytes)) same q))
    ]

pub splits_here : (P Q : List ℕ → Type 0) (bytes front back : List ℕ) (place : ℕ) → front ≡ take place bytes → back ≡ drop place bytes → P front → Q back → Splits P Q bytes
splits_here P Q bytes front back place cut left p q =
    record { front = front; back = back; spelled = sym (take-append-drop place bytes) ∙ ap (λ w. w ++ drop place bytes) (sym cut) ∙ ap (λ w. front ++ w) (sym left); first = p; second = q }

pub splits_nowhere : (P Q : List ℕ → Type 0) (bytes : List ℕ) (places : ℕ) → length bytes < places → NoneBefore P Q bytes places → Splits P Q bytes → ⊥
splits_nowhere P Q bytes places all none splits =
    let n = length splits.front in
    let cut : take n bytes ≡ splits.front = ap (take n) splits.spelled ∙ take_at splits.front splits.back n refl in
    let left : drop n bytes ≡ splits.back = append_cancel_left splits.front (drop n bytes) splits.back (ap (λ w. w ++ drop n bytes) (sym cut) ∙ take-append-drop n bytes ∙ splits.spelled) in
    none n (omega (arith, all, ap length splits.spelled, length-append splits.front splits.back)) (subst P (sym cut) splits.first) (subst Q (sym left) splits.second)

-- bytes that are an element
abbrev pub IsSpelled : List ℕ → Type 0
IsSpelled bytes = (e : Element) × IsElement e × (bytes ≡ spell e)

-- bytes that elements fill
abbrev pub IsFilledByElements : List ℕ → Type 0
IsFilledByElements bytes = (elements : List Element) × Fill bytes elements

pub filled_from : (bytes : List ℕ) → Splits IsSpelled IsFilledByElements bytes → IsFilledByElements bytes
filled_from bytes splits =
    let e = splits.first.0 in
    let es = splits.second.0 in
    let fill = splits.second.1 in
    (e ∷ es, record { spelled = splits.spelled ∙ ap (λ w. w ++ splits.back) splits.first.2 ∙ ap (λ w. spell e ++ w) fill.spelled; each = (splits.first.1, fill.each) })

pub filled_splits : (bytes : List ℕ) → (bytes ≡ [] → ⊥) → IsFilledByElements bytes → Splits IsSpelled IsFilledByElements bytes
filled_splits bytes left ([], fill) = absurd (left fill.spelled)
filled_splits bytes left (e ∷ es, fill) =
    record { front = spell e; back = flat_map spell es; spelled = fill.spelled; first = (e, fill.each.0, refl); second = (es, record { spelled = refl; each = fill.each.1 }) }

-- bytes that are a zero and a value
abbrev pub IsZeroAndValue : ℕ → List ℕ → Type 0
IsZeroAndValue kind bytes = (value : List ℕ) × (bytes ≡ 0 ∷ value) × HoldsKind kind value

abbrev pub IsKeyAndValue : ℕ → List ℕ → Type 0
IsKeyAndValue kind bytes = (key value : List ℕ) × (bytes ≡ key ++ 0 ∷ value) × IsCstring key × HoldsKind kind value

pub key_and_value_splits : (kind : ℕ) (bytes : List ℕ) → IsKeyAndValue kind bytes → Splits IsCstring (IsZeroAndValue kind) bytes
key_and_value_splits kind bytes (key, value, spelled, name, holds) =
    record { front = key; back = 0 ∷ value; spelled = spelled; first = name; second = (value, refl, holds) }

pub element_from : (bytes rest : List ℕ) (kind : ℕ) → bytes ≡ kind ∷ rest → IsKeyAndValue kind rest → IsSpelled bytes
element_from bytes rest kind same (key, value, spelled, name, held) =
    (record { kind = kind; key = key; value = value }, record { shape = held.0; known = held.1; key = name; value = held.2 }, same ∙ ap (λ w. kind ∷ w) spelled)

pub element_splits : (bytes rest : List ℕ) (kind : ℕ) → bytes ≡ kind ∷ rest → IsSpelled bytes → IsKeyAndValue kind rest
element_splits bytes rest kind same (e, is, spelled) =
    let whole : kind ∷ rest ≡ e.kind ∷ (e.key ++ 0 ∷ e.value) = sym same ∙ spelled in
    let kinds : kind ≡ e.kind = cc in
    let rests : rest ≡ e.key ++ 0 ∷ e.value = cc in
    (e.key, e.value, rests, is.key, subst (λ k. HoldsKind k e.value) (sym kinds) (is.shape, is.known, is.value))

-- a zero, a text and a zero
abbrev pub IsTextBetweenZeros : List ℕ → Type 0
IsTextBetweenZeros bytes = (name : List ℕ) × (bytes ≡ 0 ∷ (name ++ 0 ∷ [])) × IsCstring name

pub regular_expression_splits : (bytes : List ℕ) → Holds regular_expression bytes → Splits IsCstring IsTextBetweenZeros bytes
regular_expression_splits bytes (first, second, is) =
    record { front = first; back = 0 ∷ (second ++ 0 ∷ []); spelled = is.spelled; first = is.pattern_cstring; second = (second, refl, is.options_cstring) }

pub code_and_scope_splits : (bytes : List ℕ) → IsCodeAndScope bytes → Splits IsString IsFramed bytes
code_and_scope_splits bytes (code, scope, spelled, string, framed) =
    record { front = code; back = scope; spelled = spelled; first = string; second = framed }
