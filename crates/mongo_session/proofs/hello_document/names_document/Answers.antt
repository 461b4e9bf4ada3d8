use Rattle.std.proofs.Common.{refl}
use Rattle.mongo_command.proofs.CommandDocument.{both_joined}
use Rattle.mongo_command.proofs.HelloShort.{short_only_memory}
use Rattle.mongo_session.specs.Replies.{name_elements}
use Rattle.mongo_session.specs.declared.reply.Mechanisms.TheVariants.{Sha1, Sha256, Both}
use Rattle.mongo_session.proofs.Described.{short_names}
use Rattle.mongo_session.proofs.hello_document.names_document.Goals as goal

pub returns-in-Sha1-clause-refused : goal.returns-in-Sha1-clause-refused
returns-in-Sha1-clause-refused c = short_only_memory c.document_of.result _ (name_elements Sha1) (both_joined _ _ _ _ c.mechanism_field.ensures.elements refl) (short_names Sha1) c.document_of.ensures.refused

pub returns-in-Sha256-clause-refused : goal.returns-in-Sha256-clause-refused
returns-in-Sha256-clause-refused c =
    short_only_memory c.document_of-in-Sha256.result _ (name_elements Sha256) (both_joined _ _ _ _ c.mechanism_field-in-Sha256.ensures.elements refl) (short_names Sha256) c.document_of-in-Sha256.ensures.refused

pub returns-in-Both-clause-refused : goal.returns-in-Both-clause-refused
returns-in-Both-clause-refused c =
    let fields = both_joined _ _ _ _ c.mechanism_field-in-Both.ensures.elements (both_joined _ _ _ _ c.mechanism_field-in-Both-2.ensures.elements refl) in
    short_only_memory c.document_of-in-Both.result _ (name_elements Both) fields (short_names Both) c.document_of-in-Both.ensures.refused
