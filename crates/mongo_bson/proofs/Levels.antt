-- Elements that are readable down to some level, one after another.
use Rattle.std.proofs.Common.{◌≡◌, ◌≢◌, ℕ, suc, ◌-◌, ◌<◌, List, [], ◌∷◌, ◌++◌, length, sym, ap, ◌∙◌, subst, inl, inr, Some, true, false, ◌==◌, arith}
use Rattle.std.specs.List.{AllByRecursion, flat_map}
use Rattle.std.proofs.lemmas.List.{append_cancel_left, length-append, nil_from_length}
use Rattle.std.proofs.lemmas.Bool.Decides.{Decides-eqb}
use Rattle.std.proofs.lemmas.Bool.{false≢true}
use Rattle.mongo_bson.specs.Framed.{IsFramed, element_bytes}
use Rattle.mongo_bson.specs.Document.{Element, document, string, code_with_scope, shape_of, IsElement, IsCodeWithScope, IsInside, IsReadable, spell}
use Rattle.mongo_bson.specs.Reading.{BeginsWithElement, NoElementAtFront, IsOnlyInside, IsScopeOf}
use Rattle.mongo_bson.proofs.OneElement.{one_element, one_value}
use Rattle.mongo_bson.proofs.ByKind.{same_shape}

-- the documents inside an element are readable down to so many levels
abbrev pub InsideIsReadable : ℕ → Element → Type 0
InsideIsReadable levels e = (d : List ℕ) → IsInside e d → IsReadable levels d

-- bytes that are elements, each readable inside
pub record Reads (levels : ℕ) (bytes : List ℕ) : Type 0 where
  pub elements : List Element
  pub spelled : bytes ≡ flat_map spell elements
  pub each : AllByRecursion IsElement elements
  pub inside : AllByRecursion (InsideIsReadable levels) elements

-- what is left after an element is shorter
pub shorter : (bytes rest : List ℕ) (e : Element) → BeginsWithElement bytes e rest → length rest < length bytes
shorter bytes rest e begins = omega (arith, ap length begins.spelled, length-append (e.key ++ 0 ∷ e.value) rest)

pub reads_nothing : (levels : ℕ) (bytes : List ℕ) → bytes ≡ [] → Reads levels bytes
reads_nothing levels bytes e = record { elements = []; spelled = e; each = tt; inside = tt }

pub reads_more : (levels : ℕ) (bytes rest : List ℕ) (e : Element) → BeginsWithElement bytes e rest → InsideIsReadable levels e → Reads levels rest → Reads levels bytes
reads_more levels bytes rest e begins readable reads =
    record { elements = e ∷ reads.elements; spelled = begins.spelled ∙ ap (λ w. spell e ++ w) reads.spelled; each = (begins.is_element, reads.each); inside = (readable, reads.inside) }

reads_back_from : (levels : ℕ) (bytes rest : List ℕ) (e : Element) (es : List Element) → BeginsWithElement bytes e rest → bytes ≡ flat_map spell es → AllByRecursion IsElement es → AllByRecursion (InsideIsReadable levels) es → InsideIsReadable levels e × Reads levels rest
reads_back_from levels bytes rest e [] begins same each inside = let none : spell e ++ rest ≡ [] = sym begins.spelled ∙ same in cc
reads_back_from levels bytes rest e (f ∷ fs) begins same each inside =
    let one = one_element f e (flat_map spell fs) rest each.0 begins.is_element (sym same ∙ begins.spelled) in
    (subst (InsideIsReadable levels) one.0 inside.0, record { elements = fs; spelled = sym one.1; each = each.1; inside = inside.1 })

pub reads_back : (levels : ℕ) (bytes rest : List ℕ) (e : Element) → BeginsWithElement bytes e rest → Reads levels bytes → InsideIsReadable levels e × Reads levels rest
reads_back levels bytes rest e begins reads = reads_back_from levels bytes rest e reads.elements begins reads.spelled reads.each reads.inside

stops_from : (bytes : List ℕ) (es : List Element) → NoElementAtFront bytes → bytes ≢ [] → bytes ≡ flat_map spell es → AllByRecursion IsElement es → ⊥
stops_from bytes [] none left same each = left same
stops_from bytes (e ∷ es) none left same each = none e (flat_map spell es) each.0 same

pub reads_stop : (levels : ℕ) (bytes : List ℕ) → NoElementAtFront bytes → bytes ≢ [] → Reads levels bytes → ⊥
reads_stop levels bytes none left reads = stops_from bytes reads.elements none left reads.spelled reads.each

pub nothing_readable : (b : List ℕ) → IsReadable 0 b → ⊥
unfolding IsReadable
nothing_readable b readable = readable

readable_reads_from : (n : ℕ) (b : List ℕ) → IsReadable (suc n) b → Reads n (element_bytes b)
unfolding IsReadable
readable_reads_from n b (elements, is, inside) = record { elements = elements; spelled = is.filled; each = is.each; inside = inside }

reads_readable_from : (n : ℕ) (b : List ℕ) → IsFramed b → Reads n (element_bytes b) → IsReadable (suc n) b
unfolding IsReadable
reads_readable_from n b framed reads = (reads.elements, record { framed = framed; filled = reads.spelled; each = reads.each }, reads.inside)

one_less : (levels : ℕ) → 0 < levels → suc (levels - 1) ≡ levels
one_less levels some = omega arith

pub readable_reads : (levels : ℕ) (b : List ℕ) → 0 < levels → IsReadable levels b → Reads (levels - 1) (element_bytes b)
readable_reads levels b some readable = readable_reads_from (levels - 1) b (subst (λ n. IsReadable n b) (sym (one_less levels some)) readable)

pub reads_readable : (levels : ℕ) (b : List ℕ) → 0 < levels → IsFramed b → Reads (levels - 1) (element_bytes b) → IsReadable levels b
reads_readable levels b some framed reads = subst (λ n. IsReadable n b) (one_less levels some) (reads_readable_from (levels - 1) b framed reads)

-- the one document inside decides
pub only_readable : (levels : ℕ) (e : Element) (d : List ℕ) → IsOnlyInside e d → IsReadable levels d → InsideIsReadable levels e
only_readable levels e d only readable other inside = subst (IsReadable levels) (sym (only.only other inside)) readable

pub left_over : (bytes : List ℕ) → false ≡ (length bytes == 0) → bytes ≢ []
left_over [] e same = false≢true e
left_over (b ∷ bytes) e same = cc

pub none_left : (bytes : List ℕ) → true ≡ (length bytes == 0) → bytes ≡ []
none_left bytes e = nil_from_length bytes ((Decides-eqb (length bytes) 0).0 (sym e))

one_scope : (v code_a code_b a b : List ℕ) → IsCodeWithScope v code_a a → IsCodeWithScope v code_b b → a ≡ b
one_scope v code_a code_b a b p q =
    let whole = sym p.spelled ∙ q.spelled in
    let code = one_value string code_a code_b a b p.string q.string whole in
    append_cancel_left code_a a b (whole ∙ ap (λ w. w ++ b) (sym code))

other_shape : Some document ≡ Some code_with_scope → ⊥
other_shape e = let same = same_shape document code_with_scope e in cc

-- the scope is the one document inside a code with scope
pub scope_inside : (e : Element) (scope : List ℕ) → e.kind ≡ 0x0F → IsScopeOf e.value scope → IsOnlyInside e scope
scope_inside e scope kind (code, is) =
    record {
      inside = inr (kind, code, is);
      only = λ other inside. elim inside [ inl a ↦ absurd (other_shape (sym a.0 ∙ ap shape_of kind)) | inr b ↦ one_scope e.value b.1 code other scope b.2 is ];
      framed = is.document;
    }
