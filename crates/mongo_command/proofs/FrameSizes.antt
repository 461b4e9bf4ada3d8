-- How much longer the frame of a command gets by a document more of a sequence, and of an array.
use Rattle.std.proofs.Common.{◌≡◌, ℕ, ◌+◌, List, [], ◌∷◌, ◌++◌, length, length-append, map, ap, ◌∙◌, arith}
use Rattle.std.specs.List.{flat_map}
use Rattle.std.specs.Fmt.{decimal}
use Rattle.std.proofs.lemmas.List.{map-append}
use Rattle.std.proofs.lemmas.Grind.{flat_map-append}
use Rattle.mongo_bson.specs.Document.{spell}
use Rattle.mongo_bson.specs.Framed.{element_bytes, enclosed}
use Rattle.mongo_bson.specs.declared.raw_array_buf.RawArrayBuf.{RawArrayBuf}
use Rattle.mongo_bson.proofs.Enclosed.{length-enclosed, element_bytes-enclosed, length-element_bytes}
use Rattle.mongo_wire.specs.Frame.{sequence, section_bytes, sequence_bytes}
use Rattle.mongo_wire.specs.declared.document_sequence.DocumentSequence.{DocumentSequence}
use Rattle.mongo_command.specs.Command.{argument_elements, command_document}
use Rattle.mongo_command.specs.Collection.{frame_size, LengthensBy, sequence_growth, array_growth, numbered_document, collection_element, GrowsList, CarriesSequence, GrowsArray, CarriesArray}
use Rattle.mongo_command.specs.declared.command.Command.{Command}

-- the bytes of sequences, each with its kind byte and its size
abbrev sections_size : List DocumentSequence → ℕ
sections_size sequences = length (flat_map section_bytes (map sequence sequences))

frame_size-is : (c : Command) → frame_size c ≡ 21 + length (command_document c) + sections_size c.document_sequences
frame_size-is c =
    let rest = flat_map section_bytes (map sequence c.document_sequences) in
    omega (arith, length-append (0 ∷ command_document c) rest, length-append ((0 ∷ command_document c) ++ rest) [])

-- ---- a sequence

sections_size-more : (sequences : List DocumentSequence) (s : DocumentSequence) → sections_size (sequences ++ s ∷ []) ≡ sections_size sequences + (5 + length (sequence_bytes s))
sections_size-more sequences s =
    let front = flat_map section_bytes (map sequence sequences) in
    let last = section_bytes (sequence s) ++ [] in
    let whole : flat_map section_bytes (map sequence (sequences ++ s ∷ [])) ≡ front ++ last = ap (flat_map section_bytes) (map-append sequence sequences (s ∷ [])) ∙ flat_map-append section_bytes (map sequence sequences) (sequence s ∷ []) in
    omega (arith, ap length whole, length-append front last, length-append (section_bytes (sequence s)) [])

sequence_size : (identifier : List ℕ) (documents : List (List ℕ)) → length (sequence_bytes (record { identifier = identifier; documents = documents })) ≡ length identifier + 1 + length (flat_map (λ (d : List ℕ). d) documents)
sequence_size identifier documents = omega (arith, length-append identifier (0 ∷ flat_map (λ (d : List ℕ). d) documents))

documents_size : (old new : List (List ℕ)) (document : List ℕ) → new ≡ old ++ document ∷ [] → length (flat_map (λ (d : List ℕ). d) new) ≡ length (flat_map (λ (d : List ℕ). d) old) + length document
documents_size old new document is =
    let joined : flat_map (λ (d : List ℕ). d) new ≡ flat_map (λ (d : List ℕ). d) old ++ (document ++ []) = ap (flat_map (λ (d : List ℕ). d)) is ∙ flat_map-append (λ (d : List ℕ). d) old (document ∷ []) in
    omega (arith, ap length joined, length-append (flat_map (λ (d : List ℕ). d) old) (document ++ []), length-append document [])

carried_size : (documents : List (List ℕ)) (identifier : List ℕ) (old new : Command) → CarriesSequence documents identifier old new → frame_size new ≡ frame_size old + (6 + length identifier + length (flat_map (λ (d : List ℕ). d) documents))
carried_size documents identifier old new is =
    let s : DocumentSequence = record { identifier = identifier; documents = documents } in
    omega (arith, ap frame_size is, frame_size-is old, frame_size-is (record old { document_sequences = old.document_sequences ++ s ∷ [] }), sections_size-more old.document_sequences s, sequence_size identifier documents)

pub sequence_lengthens : (index : ℕ) (document : List ℕ) → LengthensBy length GrowsList CarriesSequence index document (sequence_growth index document)
sequence_lengthens index document = λ old new identifier command short long counted grows before after.
    omega (arith, carried_size old identifier command short before, carried_size new identifier command long after, documents_size old new document grows)

-- ---- an array

array_size : (old new : RawArrayBuf) (document : List ℕ) → GrowsArray old document new → length new.document ≡ length old.document + array_growth old.count document
array_size old new document g =
    let element = numbered_document old.count document in
    omega (arith, ap length g.document_is, length-enclosed (element_bytes old.document ++ spell element), length-append (element_bytes old.document) (spell element), length-append (decimal old.count) (0 ∷ document), length-element_bytes old.document g.framed)

-- what stands in the body of a command that carries an array
body_carried : (array : RawArrayBuf) (identifier : List ℕ) (old new : Command) → CarriesArray array identifier old new → element_bytes new.body ≡ element_bytes old.body ++ spell (collection_element identifier array)
body_carried array identifier old new c =
    let whole = element_bytes old.body ++ spell (collection_element identifier array) in
    let is : new.body ≡ enclosed whole = ap (λ x. x.body) c.command_is in
    ap element_bytes is ∙ element_bytes-enclosed whole (omega (arith, c.framed.most, ap length is, length-enclosed whole))

array_carried_size : (array : RawArrayBuf) (identifier : List ℕ) (old new : Command) → CarriesArray array identifier old new → frame_size new ≡ 28 + length (element_bytes old.body) + length identifier + length array.document + length (flat_map spell (argument_elements old.target_db old.arguments)) + sections_size old.document_sequences
array_carried_size array identifier old new c =
    let arguments = flat_map spell (argument_elements new.target_db new.arguments) in
    let element = collection_element identifier array in
    let same_arguments : length arguments ≡ length (flat_map spell (argument_elements old.target_db old.arguments)) = ap (λ x. length (flat_map spell (argument_elements x.target_db x.arguments))) c.command_is in
    let same_sections : sections_size new.document_sequences ≡ sections_size old.document_sequences = ap (λ x. sections_size x.document_sequences) c.command_is in
    omega (arith, frame_size-is new, same_arguments, same_sections, length-enclosed (element_bytes new.body ++ arguments), length-append (element_bytes new.body) arguments, ap length (body_carried array identifier old new c), length-append (element_bytes old.body) (spell element), length-append identifier (0 ∷ array.document))

pub array_lengthens : (index : ℕ) (document : List ℕ) → LengthensBy (λ (array : RawArrayBuf). array.count) GrowsArray CarriesArray index document (array_growth index document)
array_lengthens index document = λ old new identifier command short long counted grows before after.
    omega (arith, array_carried_size old identifier command short before, array_carried_size new identifier command long after, array_size old new document grows, ap (λ n. array_growth n document) counted)
