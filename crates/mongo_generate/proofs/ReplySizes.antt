-- The messages of a possible authentication fit into replies, so that only memory can be wanting where these are made.
use Rattle.std.proofs.Common.{◌≡◌, ℕ, ℤ, ◌+◌, ◌^◌, ◌<◌, ◌≤◌, None, Result, Ok, Err, IfErr, List, [], ◌∷◌, ◌++◌, length, length-append, map, decimal, refl, sym, subst, arith}
use Rattle.std.specs.List.{AllByRecursion, flat_map}
use Rattle.std.proofs.lemmas.Fmt.{length-decimal-le}
use Rattle.std.proofs.lemmas.Int.{ints}
use Rattle.mongo_command.proofs.HelloShort.{length-document_of}
use Rattle.mongo_wire.specs.declared.document_sequence.DocumentSequence.{DocumentSequence}
use Rattle.mongo_wire.specs.declared.error.Error.{Error}
use Rattle.mongo_wire.specs.declared.error.ErrorKind.{ErrorKind}
use Rattle.mongo_wire.specs.declared.error.ErrorKind.TheVariants.{OutOfMemory, WriteFault, InvalidArgument}
use Rattle.mongo_wire.specs.declared.fault.ArgumentFault.TheVariants.{IdentifierHasZero, SequenceTooLong, MaximumNegative, TooLong}
use Rattle.mongo_wire.specs.declared.message.Message.{Message}
use Rattle.mongo_wire.specs.Frame.{body, sequence, section_bytes}
use Rattle.mongo_wire.specs.Outside.{State}
use Rattle.mongo_wire.specs.Message.{WriteRefused, checksum_bytes, frame_length}
use Rattle.mongo_scram.specs.Attributes.{after_comma, iteration_count_attribute, salt_attribute}
use Rattle.mongo_scram.specs.Base64.{base64_of}
use Rattle.mongo_scram.specs.Messages.{verifier}
use Rattle.mongo_scram.specs.Version.{digest_of}
use Rattle.mongo_scram.specs.declared.scram_version.ScramVersion.{ScramVersion}
use Rattle.mongo_mac.specs.Hmac.{hmac_of}
use Rattle.mongo_server.specs.Announced.{maximum_message_length}
use Rattle.mongo_server.specs.Authentication.{Authentication, joined_of, salted_between, auth_message_between, first_of, server_final_of}
use Rattle.mongo_generate.specs.Login.{IsPossible}
use Rattle.mongo_generate.specs.Replies.{speculative_elements, standalone_elements, final_elements, hello_reply, final_reply}
use Rattle.mongo_generate.proofs.Texts.{length_base64, length_digest}

-- ---- the server's messages

pub short_first : (x : Authentication) → IsPossible x → length (first_of x) < 2 ^ 24
short_first x possible =
    let within = possible.within in
    let short = possible.short in
    let rest = after_comma salt_attribute ++ (base64_of x.salt ++ (after_comma iteration_count_attribute ++ decimal x.count)) in
    omega (
      arith,
      length-append (joined_of x) rest,
      length-append x.nonce x.suffix,
      length-append (base64_of x.salt) (after_comma iteration_count_attribute ++ decimal x.count),
      length_base64 x.salt,
      length-decimal-le 8 x.count (omega arith) (omega arith) (omega arith),
    )

length_verifier : (version : ScramVersion) (salted auth_message : List ℕ) → length (verifier (digest_of version) salted auth_message) ≤ 32
unfolding verifier hmac_of
length_verifier version salted auth_message = length_digest version _

pub short_final : (x : Authentication) → length (server_final_of x) < 2 ^ 24
short_final x =
    let owed = verifier (digest_of x.version) (salted_between x) (auth_message_between x) in
    omega (arith, length_base64 owed, length_verifier x.version (salted_between x) (auth_message_between x))

-- ---- documents

pub length_hello_reply : (payload : List ℕ) → length payload < 2 ^ 24 → length (hello_reply payload) < 2 ^ 25
unfolding hello_reply
length_hello_reply payload short = omega (arith, length-document_of (standalone_elements payload), length-document_of (speculative_elements payload))

pub length_final : (payload : List ℕ) → length payload < 2 ^ 24 → length (final_reply payload) < 2 ^ 25
unfolding final_reply
length_final payload short = omega (arith, length-document_of (final_elements payload))

-- ---- frames

-- a body alone
length_message : (m : Message) → m.document_sequences ≡ [] → m.checksum ≡ None → frame_length m ≡ 21 + length m.document_payload
length_message m alone bare =
    let document = m.document_payload in
    let is : frame_length m ≡ 20 + length (flat_map section_bytes (body document ∷ []) ++ []) = λ i. 20 + length (flat_map section_bytes (body document ∷ map sequence (alone i)) ++ checksum_bytes (bare i)) in
    omega (arith, is, length-append document [], length-append (document ++ []) [])

module _ (m : Message) (old new : State) (before after : ℤ) (alone : m.document_sequences ≡ []) (bare : m.checksum ≡ None) (short : length m.document_payload < 2 ^ 25) where
  -- of each of none
  none : (P : DocumentSequence → Type 0) → AllByRecursion P m.document_sequences
  none P = subst (AllByRecursion P) (sym alone) tt

  only_memory : (kind : ErrorKind) → WriteRefused kind maximum_message_length m old new before after → new.write_faults ≡ 0 → kind ≡ OutOfMemory
  only_memory OutOfMemory refused calm = refl
  only_memory WriteFault refused calm = let rose = refused.0 in absurd (omega (arith, rose, calm))
  only_memory (InvalidArgument IdentifierHasZero) refused calm = absurd (refused.0 (none _))
  only_memory (InvalidArgument SequenceTooLong) refused calm = absurd (refused.0.1 (none _))
  only_memory (InvalidArgument MaximumNegative) refused calm = let negative = refused.0.2 in absurd (omega (arith, ints, negative))
  only_memory (InvalidArgument TooLong) refused calm = let long = refused.0.3 in absurd (omega (arith, ints, long, length_message m alone bare))
  only_memory (InvalidArgument fault) refused calm = absurd refused.0
  only_memory kind refused calm = absurd refused

  -- a message that is short enough is written to a link that doesn't fail
  pub frame_fits : {T : Type 0} (r : Result T Error) → IfErr r (λ e. WriteRefused e.kind maximum_message_length m old new before after) → new.write_faults ≡ 0 → IfErr r (λ e. e.kind ≡ OutOfMemory)
  frame_fits (Ok written) refused calm = tt
  frame_fits (Err e) refused calm = only_memory e.kind refused calm
