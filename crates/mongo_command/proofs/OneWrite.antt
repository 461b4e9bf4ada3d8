-- A document says one thing as the reply to a write, so that it has one answer.
use Rattle.std.proofs.Common.{◌≡◌, ℕ, ℤ, inl, inr, Option, None, Some, Result, Ok, Err, List, [], ◌∷◌, refl, sym, ap, ◌∙◌, subst, IfErr, OnOk}
use Rattle.mongo_bson.specs.Document.{Element}
use Rattle.mongo_bson.proofs.OneElement.{one_document}
use Rattle.mongo_wire.specs.declared.error.Error.{Error}
use Rattle.mongo_wire.specs.declared.error.ErrorKind.{ErrorKind}
use Rattle.mongo_wire.specs.declared.error.ErrorKind.TheVariants.{InvalidResponse, Write, InsertMany, OutOfMemory}
use Rattle.mongo_wire.specs.declared.fault.ResponseFault.TheVariants.{Body}
use Rattle.mongo_wire.specs.declared.write_error.IndexedWriteError.{IndexedWriteError}
use Rattle.mongo_wire.specs.declared.write_error.WriteError.{WriteError}
use Rattle.mongo_wire.specs.declared.write_error.WriteConcernError.{WriteConcernError}
use Rattle.mongo_wire.specs.declared.write_error.WriteFailure.{WriteFailure}
use Rattle.mongo_wire.specs.declared.write_error.InsertManyError.{InsertManyError}
use Rattle.mongo_command.specs.WriteReply.{EachReads, ReadsUnsigned32, IsWriteErrorTable, ReadsWriteError, HoldsWriteErrors, ReadsWriteErrors, IsConcernErrorTable, ReadsConcernError, IsWriteReplyTable, IsWriteReply, write_failure, insert_failure, SaysOfWrite, SingleWriteRefused, InsertManyRefused, IsKindFor, Validates}
use Rattle.mongo_command.proofs.OneField.{ReadsOne, optional_one, required_one, or_empty_one, optional_or_empty_one, text_one, texts_one, int32_one, minutes_one, document_one}
use Rattle.mongo_command.proofs.OneReply.{◌·◌, one_held_table}

-- ---- one value of each kind

unsigned32_one : ReadsOne ReadsUnsigned32
unsigned32_one = record { one = λ e a b p q. minutes_one.one e a b p.0 q.0 }

write_error_made : ℕ → ℤ → Option (List ℕ) → List ℕ → Option (List ℕ) → IndexedWriteError
write_error_made index code code_name message details = let error : WriteError = record { code = code; code_name = code_name; message = message; details = details } in record { index = index; error = error }

one_write_error : (elements : List Element) (a b : IndexedWriteError) → IsWriteErrorTable elements a → IsWriteErrorTable elements b → a ≡ b
unfolding write_error_made
one_write_error elements a b p q =
    let made : write_error_made ≡ write_error_made = refl in
    made
    · required_one _ unsigned32_one _ _ _ p.index q.index
    · required_one _ int32_one _ _ _ p.code q.code
    · optional_one _ text_one _ _ _ p.code_name q.code_name
    · or_empty_one _ text_one _ _ _ p.message q.message
    · optional_one _ document_one _ _ _ p.details q.details

write_error_one : ReadsOne ReadsWriteError
write_error_one = record { one = λ e a b p q. one_held_table IsWriteErrorTable one_write_error e.value a b p.1 q.1 }

one_each : {A : Type 0} (Reads : Element → A → Type 0) → ReadsOne Reads → (es : List Element) (xs ys : List A) → EachReads Reads es xs → EachReads Reads es ys → xs ≡ ys
one_each Reads only [] [] [] p q = refl
one_each Reads only [] [] (y ∷ ys) p q = absurd q
one_each Reads only [] (x ∷ xs) ys p q = absurd p
one_each Reads only (e ∷ es) [] ys p q = absurd p
one_each Reads only (e ∷ es) (x ∷ xs) [] p q = absurd q
one_each Reads only (e ∷ es) (x ∷ xs) (y ∷ ys) p q = ap (λ v. v ∷ xs) (only.one e x y p.0 q.0) ∙ ap (λ vs. y ∷ vs) (one_each Reads only es xs ys p.1 q.1)

one_errors : (document : List ℕ) (a b : List IndexedWriteError) → HoldsWriteErrors document a → HoldsWriteErrors document b → a ≡ b
one_errors document a b p q =
    one_each ReadsWriteError write_error_one q.items a b (subst (λ items. EachReads ReadsWriteError items a) (one_document document p.items q.items p.filled q.filled) p.each) q.each

write_errors_one : ReadsOne ReadsWriteErrors
write_errors_one = record { one = λ e a b p q. one_errors e.value a b p.1 q.1 }

concern_made : ℤ → List ℕ → List ℕ → Option (List ℕ) → List (List ℕ) → WriteConcernError
concern_made code code_name message details labels = record { code = code; code_name = code_name; message = message; details = details; labels = labels }

one_concern_error : (elements : List Element) (a b : WriteConcernError) → IsConcernErrorTable elements a → IsConcernErrorTable elements b → a ≡ b
unfolding concern_made
one_concern_error elements a b p q =
    let made : concern_made ≡ concern_made = refl in
    made
    · required_one _ int32_one _ _ _ p.code q.code
    · or_empty_one _ text_one _ _ _ p.code_name q.code_name
    · or_empty_one _ text_one _ _ _ p.message q.message
    · optional_one _ document_one _ _ _ p.details q.details
    · or_empty_one _ texts_one _ _ _ p.labels q.labels

concern_error_one : ReadsOne ReadsConcernError
concern_error_one = record { one = λ e a b p q. one_held_table IsConcernErrorTable one_concern_error e.value a b p.1 q.1 }

-- ---- one reply

reply_made : Option (List IndexedWriteError) → Option WriteConcernError → List (List ℕ) → InsertManyError
reply_made write_errors write_concern_error labels = record { write_errors = write_errors; write_concern_error = write_concern_error; labels = labels }

one_reply : (elements : List Element) (a b : InsertManyError) → IsWriteReplyTable elements a → IsWriteReplyTable elements b → a ≡ b
unfolding reply_made
one_reply elements a b p q =
    let made : reply_made ≡ reply_made = refl in
    made
    · optional_one _ write_errors_one _ _ _ p.write_errors q.write_errors
    · optional_one _ concern_error_one _ _ _ p.write_concern_error q.write_concern_error
    · optional_or_empty_one _ texts_one _ _ _ p.labels q.labels

one_said : {F : Type 0} (failure_of : InsertManyError → Option F) (document : List ℕ) (a b : Option F) → SaysOfWrite failure_of document a → SaysOfWrite failure_of document b → a ≡ b
one_said failure_of document a b p q =
    sym p.2 ∙ ap failure_of (one_held_table IsWriteReplyTable one_reply document p.0 q.0 p.1 q.1) ∙ q.2

-- ---- one answer

some_kind : {F : Type 0} (kind_of : F → ErrorKind) (said : F) (failure : Option F) → Some said ≡ failure → IsKindFor kind_of failure (kind_of said)
some_kind kind_of said None same = let no : ⊥ = cc in absurd no
some_kind kind_of said (Some failure) same = let is : said ≡ failure = cc in inr (ap kind_of is)

memory_kind : {F : Type 0} (kind_of : F → ErrorKind) (failure : Option F) → IsKindFor kind_of failure OutOfMemory
memory_kind kind_of None = refl
memory_kind kind_of (Some failure) = inl refl

single_kind : (kind : ErrorKind) (document : List ℕ) (failure : Option WriteFailure) → SingleWriteRefused kind document → SaysOfWrite write_failure document failure → IsKindFor Write failure kind
single_kind (Write said) document failure refused says = some_kind Write said failure (one_said write_failure document (Some said) failure refused says)
single_kind (InvalidResponse Body) document failure refused says = absurd (refused says.0 says.1)
single_kind OutOfMemory document failure refused says = memory_kind Write failure
single_kind kind document failure refused says = absurd refused

many_kind : (kind : ErrorKind) (document : List ℕ) (failure : Option InsertManyError) → InsertManyRefused kind document → SaysOfWrite insert_failure document failure → IsKindFor InsertMany failure kind
many_kind (InsertMany said) document failure refused says = some_kind InsertMany said failure (one_said insert_failure document (Some said) failure refused says)
many_kind (InvalidResponse Body) document failure refused says = absurd (refused says.0 says.1)
many_kind OutOfMemory document failure refused says = memory_kind InsertMany failure
many_kind kind document failure refused says = absurd refused

pub single_validated : (document : List ℕ) (result : Result (Unit {0}) Error) → OnOk result (SaysOfWrite write_failure document None) → IfErr result (λ e. SingleWriteRefused e.kind document) → (failure : Option WriteFailure) → SaysOfWrite write_failure document failure → Validates Write failure result
single_validated document (Ok x) done refused failure says = one_said write_failure document failure None says done
single_validated document (Err e) done refused failure says = single_kind e.kind document failure refused says

pub many_validated : (document : List ℕ) (result : Result (Unit {0}) Error) → OnOk result (SaysOfWrite insert_failure document None) → IfErr result (λ e. InsertManyRefused e.kind document) → (failure : Option InsertManyError) → SaysOfWrite insert_failure document failure → Validates InsertMany failure result
many_validated document (Ok x) done refused failure says = one_said insert_failure document failure None says done
many_validated document (Err e) done refused failure says = many_kind e.kind document failure refused says

-- ---- what is told of a reply

kind_told : (kind : ErrorKind) (document : List ℕ) (reply : InsertManyError) (failure : Option WriteFailure) → IsWriteReply document reply → write_failure reply ≡ failure → IsKindFor Write failure kind → SingleWriteRefused kind document
kind_told kind document reply None is said memory = subst (λ k. SingleWriteRefused k document) (sym memory) tt
kind_told kind document reply (Some failure) is said (inl memory) = subst (λ k. SingleWriteRefused k document) (sym memory) tt
kind_told kind document reply (Some failure) is said (inr write) = subst (λ k. SingleWriteRefused k document) (sym write) (reply, is, said)

pub done_told : (document : List ℕ) (reply : InsertManyError) (result : Result (Unit {0}) Error) → IsWriteReply document reply → Validates Write (write_failure reply) result → OnOk result (SaysOfWrite write_failure document None)
done_told document reply (Ok x) is told = (reply, is, told)
done_told document reply (Err e) is told = tt

pub refused_told : (document : List ℕ) (reply : InsertManyError) (result : Result (Unit {0}) Error) → IsWriteReply document reply → Validates Write (write_failure reply) result → IfErr result (λ e. SingleWriteRefused e.kind document)
refused_told document reply (Ok x) is told = tt
refused_told document reply (Err e) is told = kind_told e.kind document reply (write_failure reply) is refl told
