-- How long the frame of an insert is.
use Rattle.std.proofs.Common.{◌≡◌, ℕ, ◌+◌, List, [], ◌∷◌, ◌++◌, length, length-append, arith}
use Rattle.mongo_wire.specs.Frame.{sequence, section_bytes}
use Rattle.mongo_wire.specs.Measure.{documents_bytes}
use Rattle.mongo_exec.specs.Insert.{Insert, insert_document, insert_size, documents_sequence}

-- 36 bytes beside the command's document and the documents
insert_size-is : (insert : Insert) (documents : List (List ℕ)) → insert_size insert documents ≡ 36 + length (insert_document insert) + length (documents_bytes documents)
insert_size-is insert documents =
    let s = documents_sequence documents in
    let last = section_bytes (sequence s) in
    let body = 0 ∷ insert_document insert in
    omega (arith, length-append body (last ++ []), length-append (body ++ (last ++ [])) [], length-append last [], length-append s.identifier (0 ∷ documents_bytes documents))

pub insert_size-more : (insert : Insert) (documents : List (List ℕ)) → insert_size insert documents ≡ insert_size insert [] + length (documents_bytes documents)
insert_size-more insert documents = omega (arith, insert_size-is insert documents, insert_size-is insert [])

pub insert_size-one : (insert : Insert) (document : List ℕ) → insert_size insert (document ∷ []) ≡ insert_size insert [] + length document
insert_size-one insert document = omega (arith, insert_size-more insert (document ∷ []), length-append document [])
