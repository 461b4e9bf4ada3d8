-- An id put first in a document.
use Rattle.std.proofs.Common.{◌≡◌, ℕ, List, [], ◌++◌, length, ◌∙◌, ap, arith}
use Rattle.mongo_bson.specs.Framed.{element_bytes, enclosed}
use Rattle.mongo_bson.specs.Document.{spell}
use Rattle.mongo_bson.specs.Merge.{id_element}
use Rattle.mongo_bson.proofs.Enclosed.{element_bytes-enclosed}

-- the id in an empty document, and then the elements
pub id_then_elements : (id empty one whole elements document : List ℕ) → length id ≡ 12 → empty ≡ enclosed [] → one ≡ enclosed (element_bytes empty ++ spell (id_element id)) → elements ≡ element_bytes document → whole ≡ enclosed (element_bytes one ++ elements) → whole ≡ enclosed (spell (id_element id) ++ element_bytes document)
id_then_elements id empty one whole elements document twelve start first copied all =
    let element = spell (id_element id) in
    let nothing : element_bytes empty ≡ [] = ap element_bytes start in
    let alone : element_bytes one ≡ element = ap element_bytes (first ∙ ap (λ w. enclosed (w ++ element)) nothing) ∙ element_bytes-enclosed element (omega (arith, twelve)) in
    all ∙ ap (λ w. enclosed (w ++ elements)) alone ∙ ap (λ w. enclosed (element ++ w)) copied
