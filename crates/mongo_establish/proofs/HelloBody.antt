-- A hello's body as it grows: each document is no shorter than the one before it, so one that can't be made makes the
-- hello too long.
use Rattle.std.proofs.Common.{◌≡◌, ℕ, ◌+◌, ◌-◌, ◌<◌, ◌≤◌, ◌↔◌, ◌∙◌, refl, ap, sym, subst, Option, None, Some, Result, Ok, Err, IfErr, List, ◌++◌, ◌∷◌, Contains, length, drop, arith}
use Rattle.std.proofs.lemmas.List.{length-append, length-take-le, length-drop}
use Rattle.mongo_bson.specs.Document.{Element, spell}
use Rattle.mongo_bson.specs.Framed.{element_bytes, maximum_length}
use Rattle.mongo_bson.proofs.Enclosed.{length-enclosed}
use Rattle.mongo_bson.specs.Refusals.{AppendRefuses}
use Rattle.mongo_bson.specs.declared.fault.BsonFault.{BsonFault}
use Rattle.mongo_bson.specs.declared.fault.BsonFault.TheVariants.{KeyHasZero, TooLong, OutOfMemory as NoMemory}
use Rattle.mongo_wire.specs.declared.error.Error.{Error}
use Rattle.mongo_wire.specs.declared.error.ErrorKind.{ErrorKind}
use Rattle.mongo_wire.specs.declared.error.ErrorKind.TheVariants.{InvalidArgument, OutOfMemory}
use Rattle.mongo_wire.specs.declared.fault.ArgumentFault.TheVariants.{Bson}
use Rattle.mongo_wire.specs.Error.{kind_of_fault}
use Rattle.mongo_command.specs.declared.command.Command.{Command}
use Rattle.mongo_command.specs.Literal.{document_element}
use Rattle.mongo_command.specs.Exchange.{DocumentRefused}
use Rattle.mongo_command.specs.Keys.{speculative_authenticate_key}
use Rattle.mongo_sasl.specs.declared.credential.Credential.{Credential}
use Rattle.mongo_meta.specs.declared.client_metadata.ClientMetadata.{ClientMetadata}
use Rattle.mongo_meta.specs.Client.{client_of}
use Rattle.mongo_establish.specs.Client.{metadata_key, followed_by_element, with_document, balanced, hello_command_of, common_hello, asking_mechanisms, speculating, introducing, hello_with}
use Rattle.mongo_establish.specs.declared.options.HandshakerOptions.{HandshakerOptions}
use Rattle.mongo_establish.specs.First.{IsUnmade}

-- a document with an element more is longer by it at least
pub length_followed : (d : List ℕ) (e : Element) → length d + length (spell e) ≤ length (followed_by_element d e)
length_followed d e = omega (arith, length-enclosed (element_bytes d ++ spell e), length-append (element_bytes d) (spell e), length-take-le (length d - 5) (drop 4 d), length-drop 4 d)

-- a document under a key, and with it the body, is no shorter than the document
pub holds_document : (key value d : List ℕ) → length value ≤ length (with_document key value d)
holds_document key value d =
    let e : Element = document_element key value in
    omega (arith, length-enclosed (element_bytes d ++ spell e), length-append (element_bytes d) (spell e), length-append key (0 ∷ value))

pub document_refused : (kind : ErrorKind) (document body : List ℕ) → length document ≤ length body → DocumentRefused kind document → DocumentRefused kind body
document_refused (InvalidArgument (Bson TooLong)) document body longer r = omega (arith, longer, r)
document_refused OutOfMemory document body longer r = tt
document_refused kind document body longer r = absurd r

-- why a document wasn't put under a key without a zero
put_refused : (fault : BsonFault) (kind : ErrorKind) (key value body : List ℕ) → (Contains key 0 → ⊥) → kind ≡ kind_of_fault fault → AppendRefuses fault → (fault ≡ KeyHasZero → Contains key 0) → (fault ≡ TooLong → maximum_length < length body + length (spell (document_element key value))) → DocumentRefused kind (with_document key value body)
put_refused KeyHasZero kind key value body whole is refuses zero long = absurd (whole (zero refl))
put_refused TooLong kind key value body whole is refuses zero long = subst (λ kind. DocumentRefused kind (with_document key value body)) (sym is) (omega (arith, length_followed body (document_element key value), long refl))
put_refused NoMemory kind key value body whole is refuses zero long = subst (λ kind. DocumentRefused kind (with_document key value body)) (sym is) tt
put_refused fault kind key value body whole is refuses zero long = absurd refuses

same_fault : (a b : BsonFault) → ◌≡◌ {A = Result (Unit {0}) BsonFault} (Err a) (Err b) → a ≡ b
same_fault a b is = cc

pub append_refused : (result : Result (Unit {0}) BsonFault) (fault : BsonFault) (kind : ErrorKind) (key value body : List ℕ) → (Contains key 0 → ⊥) → kind ≡ kind_of_fault fault → result ≡ Err fault → IfErr result AppendRefuses → (result ≡ Err KeyHasZero ↔ Contains key 0)
    → (result ≡ Err TooLong ↔ ((Contains key 0 → ⊥) × (maximum_length < length body + length (spell (document_element key value))))) → DocumentRefused kind (with_document key value body)
append_refused result fault kind key value body whole is err refuses zero long =
    put_refused fault kind key value body whole is (subst (λ r. IfErr r AppendRefuses) err refuses) (λ same. zero.0 (err ∙ ap Err same)) (λ same. (long.0 (err ∙ ap Err same)).1)

-- what is asked and put after it makes a body longer
pub speculating_longer : (login : Option (List ℕ)) (body : List ℕ) → length body ≤ length (speculating login body)
speculating_longer None body = omega arith
speculating_longer (Some login) body = omega (arith, length_followed body (document_element speculative_authenticate_key login))

pub introducing_longer : (metadata : ClientMetadata) (body : List ℕ) → length body ≤ length (introducing metadata body)
introducing_longer metadata body = omega (arith, length_followed body (document_element metadata_key (client_of metadata (length body))))

-- a hello has what stands around every document
pub least_body : (options : HandshakerOptions) (credential : Option Credential) (login : Option (List ℕ)) → 5 ≤ length (hello_with options credential login).body
least_body options credential login =
    let body = speculating login (asking_mechanisms credential (common_hello options).body) in
    omega (arith, length-enclosed (element_bytes body ++ spell (document_element metadata_key (client_of options.metadata (length body)))))

-- ---- answers

longer_refused : {T : Type 0} (r : Result T Error) (d e : List ℕ) → length d ≤ length e → IfErr r (λ x. DocumentRefused x.kind d) → IfErr r (λ x. DocumentRefused x.kind e)
longer_refused (Ok x) d e longer h = tt
longer_refused (Err x) d e longer h = document_refused x.kind d e longer h

pub client_refused : {T : Type 0} (r : Result T Error) (metadata : ClientMetadata) (body : List ℕ) (count : ℕ) → count ≡ length body → IfErr r (λ e. DocumentRefused e.kind (client_of metadata count)) → IfErr r (λ e. DocumentRefused e.kind (introducing metadata body))
client_refused (Ok x) metadata body count is h = tt
client_refused (Err e) metadata body count is h =
    let client = client_of metadata (length body) in
    document_refused e.kind client (introducing metadata body) (holds_document metadata_key client body) (subst (λ n. DocumentRefused e.kind (client_of metadata n)) is h)

pub first_document_refused : {T : Type 0} (r : Result T Error) (key document body : List ℕ) → IfErr r (λ e. DocumentRefused e.kind document) → IfErr r (λ e. DocumentRefused e.kind (with_document key document body))
first_document_refused r key document body h = longer_refused r document (with_document key document body) (holds_document key document body) h

-- a hello is no shorter than its parts
pub asking_refused : {T : Type 0} (r : Result T Error) (options : HandshakerOptions) (credential : Option Credential) (login : Option (List ℕ)) (body : List ℕ) → body ≡ (common_hello options).body → IfErr r (λ e. DocumentRefused e.kind (asking_mechanisms credential body)) → IfErr r (λ e. DocumentRefused e.kind (hello_with options credential login).body)
asking_refused r options credential login body is h =
    let question = asking_mechanisms credential (common_hello options).body in
    longer_refused r question (hello_with options credential login).body (omega (arith, speculating_longer login question, introducing_longer options.metadata (speculating login question))) (subst (λ b. IfErr r (λ e. DocumentRefused e.kind (asking_mechanisms credential b))) is h)

pub speculating_refused : {T : Type 0} (r : Result T Error) (options : HandshakerOptions) (credential : Option Credential) (login : Option (List ℕ)) (body : List ℕ) → body ≡ asking_mechanisms credential (common_hello options).body → IfErr r (λ e. DocumentRefused e.kind (speculating login body)) → IfErr r (λ e. DocumentRefused e.kind (hello_with options credential login).body)
speculating_refused r options credential login body is h =
    let speculates = speculating login (asking_mechanisms credential (common_hello options).body) in
    longer_refused r speculates (hello_with options credential login).body (introducing_longer options.metadata speculates) (subst (λ b. IfErr r (λ e. DocumentRefused e.kind (speculating login b))) is h)

-- a login that can't be made can't be put into a hello
pub unmade_refused : (options : HandshakerOptions) (credential : Option Credential) (login : Option (List ℕ)) (kind : ErrorKind) → IsUnmade login kind → DocumentRefused kind (hello_with options credential login).body
unmade_refused options credential None kind r = subst (λ kind. DocumentRefused kind (hello_with options credential None).body) (sym r) tt
unmade_refused options credential (Some document) (InvalidArgument (Bson TooLong)) r =
    let asking = asking_mechanisms credential (common_hello options).body in
    let body = with_document speculative_authenticate_key document asking in
    omega (arith, holds_document speculative_authenticate_key document asking, introducing_longer options.metadata body, r)
unmade_refused options credential (Some document) OutOfMemory r = tt
unmade_refused options credential (Some document) kind r = absurd r

-- the hello with the body that the mode asks for is the one that all logins have in common
pub common_is : (options : HandshakerOptions) (hello given : Command) (body : List ℕ) → hello ≡ hello_command_of options → given ≡ record hello { body = body } → body ≡ balanced options.load_balanced hello.body → given ≡ common_hello options
common_is options hello given body is given_is body_is =
    given_is ∙ ap (λ b. let g : Command = record hello { body = b } in g) body_is ∙ ap (λ h. let g : Command = record h { body = balanced options.load_balanced h.body } in g) is
