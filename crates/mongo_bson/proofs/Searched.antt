-- What a search in sorted texts finds.
use Rattle.std.proofs.Common.{◌≡◌, ℕ, ◌<◌, List, Bool, true, false, IsTrue, length, get_or, Result, Err, inl, inr, refl, sym, ap, ◌∙◌, subst, arith}
use Rattle.std.specs.declared.cmp.Ordering.TheVariants.{Equal}
use Rattle.std.specs.Ordering.{nat_cmp, is_eq}
use Rattle.std.specs.Cmp.Lexicographic.{slice_cmp}
use Rattle.std.specs.Borrow.{Bor}
use Rattle.std.specs.List.{All, Contains, HoldsAt}
use Rattle.std.specs.List.Sorted.{IsSorted, IsPermutation, IsBinarySearchResult}
use Rattle.std.proofs.lemmas.Bool.{cases_lt, false≢true}
use Rattle.std.proofs.lemmas.Cmp.{nat_list_cmp_total, tied_itself}
use Rattle.std.proofs.lemmas.List.{get_or-map, length-map, get_or_default}
use Rattle.std.proofs.lemmas.List.Sorted.{searchable_from_sorted, Contains-permutation, IsPermutation-map, IsPermutation-sym}
use Rattle.std.proofs.lemmas.Map.Text.{is_eq-slice_cmp}
use Rattle.std.proofs.lemmas.Slice.Eq.{bytes_eq-Decides}
use Rattle.mongo_bson.specs.Framed.{element_bytes}
use Rattle.mongo_bson.specs.Document.{Element}
use Rattle.mongo_bson.specs.Keys.{Fill, keys_of, bytes_of_texts}
use Rattle.mongo_bson.specs.Merge.{HaveCommon, TellsShared}
use Rattle.mongo_bson.proofs.Apart.{text_order, text_order_total}

tied_same : (x y : Bor (List ℕ)) → text_order x y ≡ Equal → x.now ≡ y.now
tied_same x y tied = (bytes_eq-Decides x.now y.now).0 (sym (is_eq-slice_cmp x.now y.now) ∙ ap is_eq tied)

same_tied : (x y : Bor (List ℕ)) → x.now ≡ y.now → text_order x y ≡ Equal
same_tied x y same = ap (λ w. slice_cmp nat_cmp w y.now) same ∙ tied_itself nat_list_cmp_total y.now

-- a text at a place
at_place : (texts : List (Bor (List ℕ))) (i : ℕ) (text : Bor (List ℕ)) → i < length texts → get_or (bytes_of_texts texts) i text.now ≡ (get_or texts i text).now
at_place texts i text within = get_or-map (λ t. t.now) texts i text text.now within

pub found_text : (texts : List (Bor (List ℕ))) (i : ℕ) (text : Bor (List ℕ)) → i < length texts → HoldsAt (λ y. text_order y text ≡ Equal) texts i → Contains (bytes_of_texts texts) text.now
found_text texts i text within tied =
    (i, (let w : i < length (bytes_of_texts texts) = omega (arith, length-map texts (λ t. t.now)) in w), at_place texts i text within ∙ tied_same (get_or texts i text) text (tied text))

pub text_absent : (texts : List (Bor (List ℕ))) (i : ℕ) (text : Bor (List ℕ)) → IsSorted text_order texts → IsBinarySearchResult (λ y. text_order y text) texts (let r : Result ℕ ℕ = Err i in r) → Contains (bytes_of_texts texts) text.now → ⊥
text_absent texts i text sorted says (k, within, same) =
    let parts = says (searchable_from_sorted text_order_total (λ x. x) texts text sorted) in
    let inside : k < length texts = omega (arith, within, length-map texts (λ t. t.now)) in
    let tied = same_tied (get_or texts k text) text (sym (at_place texts k text inside) ∙ same) in
    elim (cases_lt k i) [
      | inl before ↦ (let less = parts.0 k text (omega arith) before in cc)
      | inr after ↦ (let greater = parts.1 k text after inside in cc)
    ]

-- a text of both lists
pub common_text : (xs ys : List (Bor (List ℕ))) (i : ℕ) (d : Bor (List ℕ)) → i < length ys → Contains (bytes_of_texts xs) (get_or ys i d).now → HaveCommon (bytes_of_texts xs) (bytes_of_texts ys)
common_text xs ys i d within held =
    let text = get_or ys i d in
    let inside : i < length (bytes_of_texts ys) = omega (arith, length-map ys (λ t. t.now)) in
    (text.now, held, (i, inside, at_place ys i text within ∙ ap (λ t. t.now) (get_or_default ys i text d within)))

pub none_common : (xs ys : List (Bor (List ℕ))) → All (λ t. Contains (bytes_of_texts xs) t.now → ⊥) ys → HaveCommon (bytes_of_texts xs) (bytes_of_texts ys) → ⊥
none_common xs ys none (text, held, (k, within, same)) =
    let inside : k < length ys = omega (arith, within, length-map ys (λ t. t.now)) in
    let d : Bor (List ℕ) = record { ref_ptr = (0, 0); now = text } in
    none k d inside (subst (Contains (bytes_of_texts xs)) (sym same ∙ at_place ys k d inside) held)

-- the order of the first list doesn't matter
pub common_moved : (xs zs : List (Bor (List ℕ))) (ys : List (List ℕ)) → IsPermutation xs zs → HaveCommon (bytes_of_texts xs) ys → HaveCommon (bytes_of_texts zs) ys
common_moved xs zs ys moved (text, held, other) =
    (text, Contains-permutation (bytes_of_texts xs) (bytes_of_texts zs) text (IsPermutation-map (λ t. t.now) xs zs moved) held, other)

pub common_moved_back : (xs zs : List (Bor (List ℕ))) (ys : List (List ℕ)) → IsPermutation xs zs → HaveCommon (bytes_of_texts zs) ys → HaveCommon (bytes_of_texts xs) ys
common_moved_back xs zs ys moved common = common_moved zs xs ys (IsPermutation-sym xs zs moved) common

-- what the test on the keys tells of the documents
pub tells_shared : (this other : List ℕ) (mine others : List Element) (xs ys : List (List ℕ)) (shared : Bool) → Fill (element_bytes this) mine → Fill (element_bytes other) others → xs ≡ keys_of mine → ys ≡ keys_of others → (IsTrue shared → HaveCommon xs ys) × (HaveCommon xs ys → IsTrue shared) → TellsShared this other shared
tells_shared this other mine others xs ys true fill fill_other same same_other test =
    record { both = record { mine = mine; others = others; fill = fill; fill_other = fill_other }; common = subst (HaveCommon (keys_of mine)) same_other (subst (λ w. HaveCommon w ys) same (test.0 refl)) }
tells_shared this other mine others xs ys false fill fill_other same same_other test =
    record { both = record { mine = mine; others = others; fill = fill; fill_other = fill_other }; apart = λ common. false≢true (test.1 (subst (λ w. HaveCommon w ys) (sym same) (subst (HaveCommon (keys_of mine)) (sym same_other) common))) }
