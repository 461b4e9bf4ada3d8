-- Texts in order of which no neighbours are alike differ from one another.
use Rattle.std.proofs.Common.{◌≡◌, ◌≢◌, ℕ, ◌+◌, ◌<◌, List, [], ◌∷◌, Bool, true, false, length, get_or, Decides, refl, sym, ap, ◌∙◌, arith}
use Rattle.std.specs.declared.cmp.Ordering.{Ordering}
use Rattle.std.specs.declared.cmp.Ordering.TheVariants.{Less, Equal, Greater}
use Rattle.std.specs.Ordering.{nat_cmp, is_lt, is_eq, eq_by_cmp, ordering_reverse}
use Rattle.std.specs.Cmp.{IsTotalOrder}
use Rattle.std.specs.Cmp.Lexicographic.{slice_cmp}
use Rattle.std.specs.Borrow.{Bor}
use Rattle.std.specs.Str.{bytes_eq}
use Rattle.std.specs.List.{AllByRecursion, AllAdjacentBelow, IsDistinct}
use Rattle.std.specs.List.Sorted.{IsSorted, IsPermutation}
use Rattle.std.proofs.lemmas.Bool.{false≢true}
use Rattle.std.proofs.lemmas.Cmp.{nat_list_cmp_total, nat_list_eq_equiv, on_total}
use Rattle.std.proofs.lemmas.List.{get_or-map, get_or_default, length-map}
use Rattle.std.proofs.lemmas.List.Sorted.{IsPermutation-map, IsPermutation-sym}
use Rattle.std.proofs.lemmas.Map.Keys.{sorted_from_all_adjacent, IsDistinct-from_sorted, IsDistinct-IsPermutation}
use Rattle.std.proofs.lemmas.Map.Made.{AllPairs-from_IsDistinct}
use Rattle.std.proofs.lemmas.Map.Text.{is_eq-slice_cmp}
use Rattle.std.proofs.lemmas.Slice.Eq.{bytes_eq-Decides}
use Rattle.mongo_bson.specs.Document.{Element, HasDistinctKeys}
use Rattle.mongo_bson.specs.Keys.{keys_of, bytes_of_texts, AreApart}

-- the order of texts
abbrev pub text_order : Bor (List ℕ) → Bor (List ℕ) → Ordering
text_order x y = slice_cmp nat_cmp x.now y.now

false_at : {P : Type 0} (b : Bool) → Decides b P → (P → ⊥) → b ≡ false
false_at true decides other = absurd (other (decides.0 refl))
false_at false decides other = refl

differs : (xs ys : List ℕ) → xs ≢ ys → bytes_eq xs ys ≡ false
differs xs ys other = false_at (bytes_eq xs ys) (bytes_eq-Decides xs ys) other

pub text_order_total : IsTotalOrder text_order
text_order_total = on_total (λ t. t.now) nat_list_cmp_total

-- no less than the one before and no equal: greater
rises : (o back : Ordering) (same : Bool) → back ≡ ordering_reverse o → is_eq o ≡ same → same ≡ false → is_lt back ≡ false → o ≡ Less
rises Less back same e tied other up = refl
rises Equal back same e tied other up = absurd (false≢true (sym other ∙ sym tied))
rises Greater back same e tied other up = absurd (false≢true (sym up ∙ ap is_lt e))

each_differs : (t : Bor (List ℕ)) (ts : List (Bor (List ℕ))) → AllByRecursion (λ u. eq_by_cmp text_order t u ≡ false) ts → AllByRecursion (λ y. bytes_eq t.now y ≡ false) (bytes_of_texts ts)
each_differs t [] all = tt
each_differs t (u ∷ us) all = (sym (is_eq-slice_cmp t.now u.now) ∙ all.0, each_differs t us all.1)

distinct_bytes : (texts : List (Bor (List ℕ))) → IsDistinct (eq_by_cmp text_order) texts → AreApart (bytes_of_texts texts)
unfolding IsDistinct
distinct_bytes [] apart = tt
distinct_bytes (t ∷ ts) apart = (each_differs t ts apart.0, distinct_bytes ts apart.1)

pub apart_in_order : (texts : List (Bor (List ℕ))) → IsSorted text_order texts → AllAdjacentBelow (λ x y. x.now ≢ y.now) texts (length texts) → AreApart (bytes_of_texts texts)
apart_in_order texts sorted neighbours =
    let d : Bor (List ℕ) = record { ref_ptr = (0, 0); now = [] } in
    let strict = sorted_from_all_adjacent text_order_total texts d (λ k within.
    let x = get_or texts k d in
    let y = get_or texts (k + 1) d in
    rises (text_order x y) (text_order y x) (bytes_eq x.now y.now) (text_order_total.antisymm y x) (is_eq-slice_cmp x.now y.now) (differs x.now y.now (neighbours k d within)) (sorted k d (omega arith) within)) in
    distinct_bytes texts (IsDistinct-from_sorted text_order texts strict)

-- two that are alike
pub alike_not_apart : (texts : List (Bor (List ℕ))) (i j : ℕ) (d : Bor (List ℕ)) → i < j → j < length texts → true ≡ bytes_eq (get_or texts i d).now (get_or texts j d).now → AreApart (bytes_of_texts texts) → ⊥
alike_not_apart texts i j d before within alike apart =
    let pairs = AllPairs-from_IsDistinct bytes_eq-Decides (bytes_of_texts texts) apart in
    let same = (bytes_eq-Decides (get_or texts i d).now (get_or texts j d).now).0 (sym alike) in
    pairs i j [] before (omega (arith, length-map texts (λ t. t.now))) (get_or-map (λ t. t.now) texts i d [] (omega arith) ∙ same ∙ sym (get_or-map (λ t. t.now) texts j d [] within))

pub unlike : (texts : List (Bor (List ℕ))) (i j : ℕ) (d e : Bor (List ℕ)) → i < length texts → j < length texts → false ≡ bytes_eq (get_or texts i d).now (get_or texts j d).now → (get_or texts i e).now ≢ (get_or texts j e).now
unlike texts i j d e i_within j_within differ same =
    let moved = ap (λ t. t.now) (get_or_default texts i d e i_within) ∙ same ∙ ap (λ t. t.now) (get_or_default texts j e d j_within) in
    false≢true (differ ∙ (bytes_eq-Decides (get_or texts i d).now (get_or texts j d).now).1 moved)

-- texts that change places stay apart
pub apart_moved : (xs ys : List (Bor (List ℕ))) → IsPermutation xs ys → AreApart (bytes_of_texts xs) → AreApart (bytes_of_texts ys)
apart_moved xs ys moved apart = IsDistinct-IsPermutation bytes_eq nat_list_eq_equiv.symm (bytes_of_texts xs) (bytes_of_texts ys) (IsPermutation-map (λ t. t.now) xs ys moved) apart

pub apart_moved_back : (xs ys : List (Bor (List ℕ))) → IsPermutation xs ys → AreApart (bytes_of_texts ys) → AreApart (bytes_of_texts xs)
apart_moved_back xs ys moved apart = apart_moved ys xs (IsPermutation-sym xs ys moved) apart

later_differ : (e : Element) (es : List Element) → AllByRecursion (λ y. bytes_eq e.key y ≡ false) (keys_of es) → AllByRecursion (λ later. later.key ≢ e.key) es
later_differ e [] all = tt
later_differ e (f ∷ fs) all = (λ same. false≢true (sym all.0 ∙ (bytes_eq-Decides e.key f.key).1 (sym same)), later_differ e fs all.1)

-- keys that are apart, as elements
pub distinct_from_apart : (es : List Element) → AreApart (keys_of es) → HasDistinctKeys es
unfolding IsDistinct
distinct_from_apart [] apart = tt
distinct_from_apart (e ∷ es) apart = (later_differ e es apart.0, distinct_from_apart es apart.1)

keys_differ : (e : Element) (es : List Element) → AllByRecursion (λ later. later.key ≢ e.key) es → AllByRecursion (λ y. bytes_eq e.key y ≡ false) (keys_of es)
keys_differ e [] all = tt
keys_differ e (f ∷ fs) all = (differs e.key f.key (λ same. all.0 (sym same)), keys_differ e fs all.1)

pub apart_from_distinct : (es : List Element) → HasDistinctKeys es → AreApart (keys_of es)
unfolding IsDistinct
apart_from_distinct [] all = tt
apart_from_distinct (e ∷ es) all = (keys_differ e es all.0, apart_from_distinct es all.1)
