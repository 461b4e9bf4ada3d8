-- The documents of an array of documents alone, from those that were read so far.
use Rattle.std.proofs.Common.{◌≡◌, ℕ, Result, Err, List, [], ◌∷◌, ◌++◌, subst}
use Rattle.std.specs.Result.{IsErrAnd}
use Rattle.mongo_bson.specs.Document.{Element}
use Rattle.mongo_bson.specs.Framed.{element_bytes}
use Rattle.mongo_bson.specs.Framed.{IsFramed}
use Rattle.mongo_bson.specs.Steps.{TakesElement, IsBroken}
use Rattle.mongo_bson.specs.declared.raw_value.RawValue.{RawValue}
use Rattle.mongo_command.specs.declared.field.FieldFault.{FieldFault}
use Rattle.mongo_command.specs.Field.{ReadsDocument}
use Rattle.mongo_command.specs.Fields.{Answers}
use Rattle.mongo_command.specs.WriteReply.{EachReads}
use Rattle.mongo_command.proofs.Elements.{passes_each_element, no_element, document_begins_with}
use Rattle.mongo_command.proofs.FieldAnswers.{AnswersOfValue, part_fault}
use Rattle.mongo_command.proofs.Tables.{ReadsEachSoFar}
use Rattle.mongo_cursor.specs.Batch.{HoldsDocuments}

pub all_documents : (array rest : List ℕ) (documents : List (List ℕ)) → IsFramed array → ReadsEachSoFar ReadsDocument (element_bytes array) rest documents → rest ≡ [] → HoldsDocuments array documents
all_documents array rest documents framed so_far over =
    record { items = so_far.elements; filled = passes_each_element array rest so_far.elements framed so_far.passes over; each = so_far.each }

-- none fill an array of which an element can't be read
pub documents_broken_off : (array rest : List ℕ) (read : List (List ℕ)) → ReadsEachSoFar ReadsDocument (element_bytes array) rest read → IsBroken rest → (documents : List (List ℕ)) → HoldsDocuments array documents → ⊥
documents_broken_off array rest read so_far none documents holds = no_element array rest so_far.elements so_far.passes none holds.items holds.filled

document_at : (es more : List Element) (e : Element) (documents : List (List ℕ)) → EachReads ReadsDocument (es ++ e ∷ more) documents → (document : List ℕ) × ReadsDocument e document
document_at [] more e [] each = absurd each
document_at [] more e (d ∷ ds) each = (d, each.0)
document_at (x ∷ xs) more e [] each = absurd each
document_at (x ∷ xs) more e (d ∷ ds) each = document_at xs more e ds each.1

-- nor one of which an element is no document
pub no_document : (array rest after key : List ℕ) (value : RawValue) (read : List (List ℕ)) (fault : FieldFault) (answer : Result (List (List ℕ)) FieldFault) → IsErrAnd answer (λ e. e ≡ fault) → ReadsEachSoFar ReadsDocument (element_bytes array) rest read → TakesElement rest key value after → AnswersOfValue ReadsDocument value (Err fault) → Answers HoldsDocuments array answer
no_document array rest after key value read fault answer passed so_far takes none =
    let e = takes.element in
    part_fault HoldsDocuments ReadsDocument array e fault answer passed
    (λ documents holds.
    let begins = document_begins_with array rest after key value so_far.elements holds.items so_far.passes takes holds.filled in
    document_at so_far.elements begins.0 e documents (subst (λ items. EachReads ReadsDocument items documents) begins.1 holds.each))
    (none e takes.value_is)
