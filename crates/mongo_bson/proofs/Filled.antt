-- Bytes that elements fill, one element after another.
use Rattle.std.proofs.Common.{◌≡◌, ◌≢◌, ℕ, List, [], ◌∷◌, ◌++◌, refl, sym, ap, ◌∙◌}
use Rattle.std.specs.List.{flat_map}
use Rattle.std.specs.Borrow.{Bor}
use Rattle.std.proofs.lemmas.List.{append_assoc, map-append, append-nil}
use Rattle.mongo_bson.specs.Document.{Element, spell}
use Rattle.mongo_bson.specs.Reading.{BeginsWithElement, NoElementAtFront}
use Rattle.mongo_bson.specs.Keys.{Fill, keys_of, bytes_of_texts}
use Rattle.mongo_bson.proofs.OneElement.{one_element}

pub fill_nothing : (bytes : List ℕ) → bytes ≡ [] → Fill bytes []
fill_nothing bytes e = record { spelled = e; each = tt }

pub fill_more : (bytes rest : List ℕ) (e : Element) (es : List Element) → BeginsWithElement bytes e rest → Fill rest es → Fill bytes (e ∷ es)
fill_more bytes rest e es begins fill = record { spelled = begins.spelled ∙ ap (λ w. spell e ++ w) fill.spelled; each = (begins.is_element, fill.each) }

-- without its first element, a list fills the rest
pub fill_rest : (bytes rest : List ℕ) (e : Element) (es : List Element) → BeginsWithElement bytes e rest → Fill bytes es → (fs : List Element) × (es ≡ e ∷ fs) × Fill rest fs
fill_rest bytes rest e [] begins fill = let none : spell e ++ rest ≡ [] = sym begins.spelled ∙ fill.spelled in cc
fill_rest bytes rest e (f ∷ fs) begins fill =
    let one = one_element f e (flat_map spell fs) rest fill.each.0 begins.is_element (sym fill.spelled ∙ begins.spelled) in
    (fs, ap (λ x. x ∷ fs) one.0, record { spelled = sym one.1; each = fill.each.1 })

-- where no element stands at the front of what is left, no list fills it
pub no_fill : (bytes : List ℕ) (es : List Element) → NoElementAtFront bytes → bytes ≢ [] → Fill bytes es → ⊥
no_fill bytes [] none left fill = left fill.spelled
no_fill bytes (e ∷ es) none left fill = none e (flat_map spell es) fill.each.0 fill.spelled

-- what is known of the whole when so many keys were read and `rest` is left
pub record ReadsKeys (bytes rest : List ℕ) (keys : List (List ℕ)) : Type 0 where
  pub to : (es : List Element) → Fill rest es → (all : List Element) × Fill bytes all × (keys_of all ≡ keys ++ keys_of es)
  pub from : (all : List Element) → Fill bytes all → (es : List Element) × Fill rest es

pub reads_none : (bytes : List ℕ) → ReadsKeys bytes bytes []
reads_none bytes = record { to = λ es fill. (es, fill, refl); from = λ all fill. (all, fill) }

pub reads_key : (bytes rest after : List ℕ) (texts more : List (Bor (List ℕ))) (key : Bor (List ℕ)) (e : Element) → BeginsWithElement rest e after → key.now ≡ e.key → more ≡ texts ++ key ∷ [] → ReadsKeys bytes rest (bytes_of_texts texts) → ReadsKeys bytes after (bytes_of_texts more)
reads_key bytes rest after texts more key e begins is pushed so_far =
    let keys = bytes_of_texts texts in
    let longer : bytes_of_texts more ≡ keys ++ e.key ∷ [] = ap bytes_of_texts pushed ∙ map-append (λ t. t.now) texts (key ∷ []) ∙ ap (λ k. keys ++ k ∷ []) is in
    record {
      to = λ es fill.
          let whole = so_far.to (e ∷ es) (fill_more rest after e es begins fill) in
          (whole.0, whole.1, whole.2 ∙ sym (append_assoc keys (e.key ∷ []) (keys_of es)) ∙ ap (λ w. w ++ keys_of es) (sym longer));
      from = λ all fill. let back = so_far.from all fill in let split = fill_rest rest after e back.0 begins back.1 in (split.0, split.2);
    }

pub read_all : (bytes rest : List ℕ) (keys : List (List ℕ)) → ReadsKeys bytes rest keys → rest ≡ [] → (all : List Element) × Fill bytes all × (keys ≡ keys_of all)
read_all bytes rest keys reads over =
    let whole = reads.to [] (fill_nothing rest over) in
    (whole.0, whole.1, sym (whole.2 ∙ append-nil keys))
