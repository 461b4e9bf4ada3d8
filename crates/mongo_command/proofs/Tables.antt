-- A table over a document's elements, as the document's; and a list of values, one for each element that was read.
use Rattle.std.proofs.Common.{◌≡◌, ℕ, Result, Ok, Err, List, [], ◌∷◌, ◌++◌, subst}
use Rattle.std.specs.Result.{IsErrAnd}
use Rattle.mongo_bson.specs.Document.{Element, IsWellFormed}
use Rattle.mongo_bson.specs.Framed.{IsFramed, element_bytes}
use Rattle.mongo_bson.specs.Steps.{TakesElement, IsBroken}
use Rattle.mongo_bson.specs.declared.raw_value.RawValue.{RawValue}
use Rattle.mongo_bson.proofs.OneElement.{one_document}
use Rattle.mongo_wire.specs.declared.write_error.IndexedWriteError.{IndexedWriteError}
use Rattle.mongo_command.specs.declared.field.FieldFault.{FieldFault}
use Rattle.mongo_command.specs.declared.field.FieldFault.TheVariants.{Unreadable, OutOfMemory}
use Rattle.mongo_command.specs.Fields.{Answers, IsNotWellFormed}
use Rattle.mongo_command.specs.Field.{HoldsTable}
use Rattle.mongo_command.specs.WriteReply.{EachReads, ReadsWriteError, HoldsWriteErrors}
use Rattle.mongo_command.proofs.Elements.{PassesElements, passes_no_element, passes_more, passes_each_element, no_element, document_begins_with}
use Rattle.mongo_command.proofs.FieldAnswers.{AnswersOfValue, part_fault}

-- ---- a table

pub table_of : {A : Type 0} (Reads : List Element → A → Type 0) (document : List ℕ) (elements : List Element) (answer : Result A FieldFault) → IsWellFormed document elements → Answers Reads elements answer → Answers (HoldsTable Reads) document answer
table_of Reads document elements (Ok value) is reads = record { elements = elements; well_formed = is; table = reads }
table_of Reads document elements (Err Unreadable) is none = λ value holds.
    none value (subst (λ es. Reads es value) (one_document document holds.elements elements holds.well_formed.document is.document) holds.table)
table_of Reads document elements (Err OutOfMemory) is none = tt

pub no_table : {A : Type 0} (Reads : List Element → A → Type 0) (document : List ℕ) (fault : FieldFault) → IsNotWellFormed document fault → Answers (HoldsTable Reads) document (Err fault)
no_table Reads document Unreadable none = λ value holds. none holds.elements holds.well_formed
no_table Reads document OutOfMemory none = tt

-- ---- a list of values

pub record ReadsEachSoFar {A : Type 0} (Reads : Element → A → Type 0) (bytes rest : List ℕ) (values : List A) : Type 0 where
  pub elements : List Element
  pub passes : PassesElements bytes rest elements
  pub each : EachReads Reads elements values

pub none_each : {A : Type 0} (Reads : Element → A → Type 0) (bytes rest : List ℕ) → rest ≡ bytes → ReadsEachSoFar Reads bytes rest []
none_each Reads bytes rest same = record { elements = []; passes = passes_no_element bytes rest same; each = tt }

each_more : {A : Type 0} (Reads : Element → A → Type 0) (es : List Element) (values : List A) (e : Element) (value : A) → EachReads Reads es values → Reads e value → EachReads Reads (es ++ e ∷ []) (values ++ value ∷ [])
each_more Reads [] [] e value each reads = (reads, tt)
each_more Reads [] (v ∷ vs) e value each reads = absurd each
each_more Reads (x ∷ xs) [] e value each reads = absurd each
each_more Reads (x ∷ xs) (v ∷ vs) e value each reads = (each.0, each_more Reads xs vs e value each.1 reads)

pub more_each : {A : Type 0} (Reads : Element → A → Type 0) (bytes rest after key : List ℕ) (value : RawValue) (values : List A) (read : A) → ReadsEachSoFar Reads bytes rest values → (takes : TakesElement rest key value after) → Reads takes.element read → ReadsEachSoFar Reads bytes after (values ++ read ∷ [])
more_each Reads bytes rest after key value values read so_far takes reads = record {
  elements = so_far.elements ++ takes.element ∷ [];
  passes = passes_more bytes rest after key value so_far.elements so_far.passes takes;
  each = each_more Reads so_far.elements values takes.element read so_far.each reads;
}

-- the value at an element's place, in a list of values for all elements
value_at : {A : Type 0} (Reads : Element → A → Type 0) (es more : List Element) (e : Element) (values : List A) → EachReads Reads (es ++ e ∷ more) values → (value : A) × Reads e value
value_at Reads [] more e [] each = absurd each
value_at Reads [] more e (v ∷ vs) each = (v, each.0)
value_at Reads (x ∷ xs) more e [] each = absurd each
value_at Reads (x ∷ xs) more e (v ∷ vs) each = value_at Reads xs more e vs each.1

-- ---- write errors

pub all_errors : (document rest : List ℕ) (errors : List IndexedWriteError) → IsFramed document → ReadsEachSoFar ReadsWriteError (element_bytes document) rest errors → rest ≡ [] → HoldsWriteErrors document errors
all_errors document rest errors framed so_far over =
    record { items = so_far.elements; filled = passes_each_element document rest so_far.elements framed so_far.passes over; each = so_far.each }

-- none fill a document of which an element can't be read
pub errors_broken_off : (document rest : List ℕ) (read : List IndexedWriteError) → ReadsEachSoFar ReadsWriteError (element_bytes document) rest read → IsBroken rest → (errors : List IndexedWriteError) → HoldsWriteErrors document errors → ⊥
errors_broken_off document rest read so_far none errors holds = no_element document rest so_far.elements so_far.passes none holds.items holds.filled

-- nor one of which an element is no write error
pub no_write_error : (document rest after key : List ℕ) (value : RawValue) (read : List IndexedWriteError) (fault : FieldFault) (answer : Result (List IndexedWriteError) FieldFault) → IsErrAnd answer (λ e. e ≡ fault) → ReadsEachSoFar ReadsWriteError (element_bytes document) rest read → TakesElement rest key value after → AnswersOfValue ReadsWriteError value (Err fault) → Answers HoldsWriteErrors document answer
no_write_error document rest after key value read fault answer passed so_far takes none =
    let e = takes.element in
    part_fault HoldsWriteErrors ReadsWriteError document e fault answer passed
    (λ errors holds.
    let begins = document_begins_with document rest after key value so_far.elements holds.items so_far.passes takes holds.filled in
    value_at ReadsWriteError so_far.elements begins.0 e errors (subst (λ items. EachReads ReadsWriteError items errors) begins.1 holds.each))
    (none e takes.value_is)
